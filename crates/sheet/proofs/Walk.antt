-- Walking through a sheet's records by `Cursor::read`: what holds at a cursor with n records before it. Every loop over records uses it.
use Rattle.std.specs.Prelude.{Err, None, Ok, Option, Result, Some}
use mathlib.Core.Path.{◌≡◌, refl, sym, ap, ◌∙◌}
use mathlib.Core.Bool.{Bool, true, false, cond}
use mathlib.Core.List.{List, [], ◌∷◌, ◌++◌}
use Prim.Native.Nat.{ℕ, zero, suc, ◌+◌, ◌-◌, ◌<◌, ◌≤◌}
use native.Mathlib.Numerals.{add-one}
use native.Mathlib.Omega.{arith}
use borrow.Author.Tests.{leb-false}
use lib.Dec.{eqb, leb}
use lib.ListN.{length, get_or, take, drop, length-drop}
use mir.Syntax.{w64}
use mir.Val.{Fits}
use lib.Seq.{get_or-drop, drop-drop, take-suc}
use Rattle.sheet.specs.declared.Record.{Record}
use Rattle.sheet.specs.declared.Cursor.{Cursor}
use Rattle.sheet.specs.Table.{row_at, on_row, read_at, is_known, Stands}
use Rattle.sheet.specs.Records.{Reading, first, on_read, read_from, start, reading, records_of, stop_of}

-- ---- one read
clash : {x : ℕ} {r : Record} {next : Cursor} → ◌≡◌ {A = Result (Record × Cursor) ℕ} (Err x) (Ok (r, next)) → ⊥
clash e = let z : ◌≡◌ {A = ℕ} 0 1 = cc in omega arith

past : (b : Bool) (x : ℕ) (rest : Result (Record × Cursor) ℕ) {r : Record} {next : Cursor} → cond b (Err x) rest ≡ Ok (r, next) → rest ≡ Ok (r, next)
past true x rest e = absurd (clash e)
past false x rest e = e

known : (row : Option Record) (to : Cursor) (x : ℕ) {r : Record} {next : Cursor} → on_row row to x ≡ Ok (r, next) → (row ≡ Some r) × (next ≡ to)
known (Some what) to x {r} {next} e =
    let q : ◌≡◌ {A = Record × Cursor} (what, to) (r, next) = cc in
    (ap (λ (p : Record × Cursor). Some p.0) q, sym (ap (λ (p : Record × Cursor). p.1) q))
known None to x e = absurd (clash e)

over : (b : Bool) (x : ℕ) (rest : Result (Record × Cursor) ℕ) {r : Record} {next : Cursor} → cond b (Err x) rest ≡ Ok (r, next) → b ≡ false
over true x rest e = absurd (clash e)
over false x rest e = refl

module _ (s : List ℕ) (c : Cursor) {r : Record} {next : Cursor} (e : read_at s c ≡ Ok (r, next)) where
  row : cond (leb (length s) (c.at + get_or s c.at 0)) (Err c.at) (on_row (row_at s c.at) (record { at = c.at + 1 + get_or s c.at 0; left = c.left - 1 }) c.at) ≡ Ok (r, next)
  unfolding read_at
  row = past (eqb c.left 0) c.at _ e

  fitting : (row_at s c.at ≡ Some r) × (next ≡ record { at = c.at + 1 + get_or s c.at 0; left = c.left - 1 })
  fitting = known (row_at s c.at) _ c.at (past (leb (length s) (c.at + get_or s c.at 0)) c.at _ row)

  -- after reading a record, one fewer may follow
  fewer : next.left ≡ c.left - 1
  fewer = ap (λ (k : Cursor). k.left) fitting.1

  -- and the record stands there
  found-stands : Stands s c.at
  found-stands = record { inside = leb-false (length s) (c.at + get_or s c.at 0) (over _ c.at _ row); known = ap is_known fitting.0 }

pub read_more : (s : List ℕ) (at left : ℕ) {r : Record} {next : Cursor} → read_at s (record { at = at; left = left }) ≡ Ok (r, next)
    → (0 < left) × (read_from left s at ≡ first r (read_from next.left s next.at))
unfolding read_at read_from
read_more s at zero e = absurd (clash e)
read_more s at (suc left) {r} {next} e =
    let f : next.left ≡ left = fewer s (record { at = at; left = suc left }) e ∙ (let z : suc left - 1 ≡ left = omega arith in z) in
    (omega arith, ap (λ (k : Result (Record × Cursor) ℕ). on_read k (λ to. read_from left s to.at)) e ∙ ap (λ (n : ℕ). first r (read_from n s next.at)) (sym f))

pub read-stop : (s : List ℕ) (at left : ℕ) {x : ℕ} → read_at s (record { at = at; left = left }) ≡ Err x → read_from left s at ≡ record { records = []; stop = x }
unfolding read_at read_from
read-stop s at zero e = cc
read-stop s at (suc left) e = ap (λ (k : Result (Record × Cursor) ℕ). on_read k (λ to. read_from left s to.at)) e

-- ---- the walk
-- the cursor c has n records before it
pub record At (s : List ℕ) (c : Cursor) (n : ℕ) : Type 0 where
  pub total : n + c.left ≡ 256
  pub among : n ≤ length (records_of s)
  pub rest : (read_from c.left s c.at).records ≡ drop n (records_of s)
  pub stops : (read_from c.left s c.at).stop ≡ stop_of s

pub at-start : (s : List ℕ) → At s start 0
unfolding reading
at-start s = record { total = refl; among = omega arith; rest = refl; stops = refl }

-- k is what `Cursor::read` returned
module _ (s : List ℕ) (c : Cursor) (n : ℕ) (w : At s c n) (k : Result (Record × Cursor) ℕ) (is : k ≡ read_at s c) where
  module _ (r : Record) (next : Cursor) (e : k ≡ Ok (r, next)) where
    there : read_at s c ≡ Ok (r, next)
    there = sym is ∙ e

    more-there : (0 < c.left) × (read_from c.left s c.at ≡ first r (read_from next.left s next.at))
    more-there = read_more s c.at c.left there

    -- the remaining records begin with the one that was read
    pub here : drop n (records_of s) ≡ r ∷ (read_from next.left s next.at).records
    here = sym w.rest ∙ ap (λ (k : Reading). k.records) more-there.1

    -- the record that was read is number n
    pub found_number : n < length (records_of s)
    found_number = omega (arith, length-drop n (records_of s), ap length here)

    pub found-record : (d : Record) → get_or (records_of s) n d ≡ r
    found-record d = ap (λ (k : ℕ). get_or (records_of s) k d) (let z : n ≡ n + 0 = omega arith in z) ∙ sym (get_or-drop n (records_of s) 0 d) ∙ ap (λ (l : List Record). get_or l 0 d) here

    pub rest-is : drop (n + 1) (records_of s) ≡ (read_from next.left s next.at).records
    rest-is = sym (drop-drop 1 n (records_of s)) ∙ ap (λ (l : List Record). drop 1 l) here

    pub fewer-left : next.left < c.left
    fewer-left = omega (arith, fewer s c there, more-there.0)

    -- a number below 256: an index of the array, and one more still fits
    pub found_below : n < 256
    found_below = omega (arith, w.total, more-there.0)

    pub found-fits : Fits w64 (n + 1)
    found-fits = record { fits = omega (arith, found_below) }

    pub at_next : At s next (n + 1)
    at_next =
        record {
          total = omega (arith, w.total, fewer s c there, more-there.0);
          among = omega (arith, found_number);
          rest = sym rest-is;
          stops = ap (λ (k : Reading). k.stop) (sym more-there.1) ∙ w.stops;
        }

  module _ (x : ℕ) (e : k ≡ Err x) where
    ended : read_from c.left s c.at ≡ record { records = []; stop = x }
    ended = read-stop s c.at c.left (sym is ∙ e)

    -- if no record could be read, all had been
    pub all_read : n ≡ length (records_of s)
    all_read =
        let f : drop n (records_of s) ≡ [] = sym w.rest ∙ ap (λ (k : Reading). k.records) ended in
        omega (arith, length-drop n (records_of s), ap length f, w.among)

    pub stop_is : x ≡ stop_of s
    stop_is = ap (λ (k : Reading). k.stop) (sym ended) ∙ w.stops

-- ---- the walk of a loop that does not count
pub at_first : (s : List ℕ) (c : Cursor) → c ≡ start → At s c (256 - c.left)
at_first s c e = rw e (at-start s)

pub at_after : (s : List ℕ) (c : Cursor) → At s c (256 - c.left) → (k : Result (Record × Cursor) ℕ) → k ≡ read_at s c → (r : Record) (next : Cursor) → k ≡ Ok (r, next) → At s next (256 - next.left)
at_after s c w k is r next e =
    let n : ℕ = 256 - c.left in
    let t = at_next s c n w k is r next e in
    let z : n + 1 ≡ 256 - next.left = omega (arith, t.total) in
    rw z at t

-- ---- the walk of a loop that knows the number of records: there is one at each place
-- the place `at` has n records before it
abbrev pub Before : List ℕ → ℕ → ℕ → Type 0
Before s at n = At s (record { at = at; left = 256 - n }) n

pub before-first : (s : List ℕ) → Before s 3 0
before-first s = at-start s

module _ (s : List ℕ) (at n : ℕ) (w : Before s at n) (more : n < length (records_of s)) where
  abbrev here-at : Cursor
  here-at = record { at = at; left = 256 - n }

  -- a record can be read there, so what follows from one follows
  read-there : {A : Type 0} → ((r : Record) (next : Cursor) → read_at s here-at ≡ Ok (r, next) → A) → A
  read-there {A} f = by (read_at s here-at) refl
    where
      by : (k : Result (Record × Cursor) ℕ) → read_at s here-at ≡ k → A
      by (Ok (r, next)) e = f r next e
      by (Err x) e = let z : ⊥ = omega (arith, all_read s here-at n w _ refl x e) in absurd z

  pub stands : Stands s at
  stands = read-there (λ r next e. found-stands s here-at e)

  module _ (r : Record) (e : row_at s at ≡ Some r) where
    same : (q : Record) (next : Cursor) → read_at s here-at ≡ Ok (q, next) → q ≡ r
    same q next f = let k = (fitting s here-at f).0 in cc

    pub stands-record : (d : Record) → get_or (records_of s) n d ≡ r
    stands-record d = read-there (λ q next f. found-record s here-at n w _ refl q next f d ∙ same q next f)

    pub before-next : Before s (at + 1 + get_or s at 0) (n + 1)
    before-next =
        read-there (λ q next f.
        let t = at_next s here-at n w _ refl q next f in
        let m : 256 - n - 1 ≡ 256 - (n + 1) = omega arith in
        let g : next ≡ record { at = at + 1 + get_or s at 0; left = 256 - (n + 1) } = (fitting s here-at f).1 ∙ ap (λ (l : ℕ). record { at = at + 1 + get_or s at 0; left = l }) m in
        rw g at t)

    -- the first n + 1 records are the first n and this one
    pub stands-taken : (d : Record) → take (n + 1) (records_of s) ≡ take n (records_of s) ++ r ∷ []
    stands-taken d = ap (λ (k : ℕ). take k (records_of s)) (add-one n) ∙ take-suc (records_of s) n d more ∙ ap (λ (x : Record). take n (records_of s) ++ x ∷ []) (stands-record d)
