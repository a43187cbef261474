-- What `check` answers at each of its tests.
use Rattle.std.specs.Prelude.{Err}
use mathlib.Core.Path.{◌≡◌}
use mathlib.Core.Bool.{Bool, true, false, not}
use mathlib.Core.List.{List}
use Prim.Native.Nat.{ℕ, ◌+◌, ◌<◌, ◌≤◌}
use borrow.Author.Tests.{lt-ltb, le-ltb, eq-eqb, ne_eqb}
use lib.ListN.{length, get_or}
use Rattle.bigendian.specs.Numbers.{unsigned_at}
use Rattle.replies.specs.declared.Refusal.TheVariants.{Length, Version, Record}
use Rattle.replies.specs.Table.{Reply}
use Rattle.sheet.specs.Records.{records_of, stop_of}
use Rattle.sheet.specs.Check.{is_version, check_records, check_of}

module _ (s : List ℕ) where
  pub too_short : length s < 3 → Err Length ≡ check_of s
  unfolding check_of
  too_short h = rw (lt-ltb (length s) 3 h)

  module _ (long : 3 ≤ length s) (u : ℕ) (is : u ≡ unsigned_at 2 s 0) where
    pub disagrees : (u + 2 ≡ length s → ⊥) → Err Length ≡ check_of s
    unfolding check_of
    disagrees h = rw (le-ltb (length s) 3 long, ← is, ne_eqb _ _ h)

    module _ (agrees : u + 2 ≡ length s) where
      -- what `is_version` returned of the version
      module _ (known : Bool) (by : known ≡ is_version (get_or s 2 0)) where
        pub other-version : not known ≡ true → Err Version ≡ check_of s
        unfolding check_of
        other-version h = rw (le-ltb (length s) 3 long, ← is, eq-eqb _ _ agrees, ← by, h)

        module _ (version : not known ≡ false) (stop : ℕ) (at : stop ≡ stop_of s) where
          pub bad-record : stop < length s → Err (Record stop) ≡ check_of s
          unfolding check_of
          bad-record h = rw (le-ltb (length s) 3 long, ← is, eq-eqb _ _ agrees, ← by, version, ← at, lt-ltb _ _ h)

          pub all-framed : (r : Reply) → length s ≤ stop → r ≡ check_records (records_of s) → r ≡ check_of s
          unfolding check_of
          all-framed r h e = rw (le-ltb (length s) 3 long, ← is, eq-eqb _ _ agrees, ← by, version, ← at, le-ltb _ _ h) e
