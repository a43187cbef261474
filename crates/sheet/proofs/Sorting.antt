-- The loop that tests operands. Its invariant: n records are done, an array holds their sorts, and the result for the remaining records is the result for the whole sheet.
use Rattle.std.specs.Prelude.{Err, Ok, Result}
use mathlib.Core.Path.{◌≡◌, refl, sym, ap, ◌∙◌}
use mathlib.Core.Bool.{Bool, true, false, not, cond}
use mathlib.Core.List.{List, [], ◌∷◌, ◌++◌, map}
use Prim.Native.Nat.{ℕ, zero, suc, ◌+◌, ◌<◌}
use native.Mathlib.Numerals.{add-one}
use native.Mathlib.Omega.{arith}
use borrow.Author.Tests.{not-true, not-false, lt-ltb, le-ltb}
use lib.ListN.{length, get_or, take, drop, set, replicate, length-set, length-map, length-take}
use lib.Seq.{take-suc, take_all, drop-length}
use Rattle.sheet.specs.declared.Record.{Record}
use Rattle.sheet.specs.declared.Record.TheVariants.{X}
use Rattle.sheet.specs.declared.Sort.{Sort}
use Rattle.sheet.specs.declared.Sort.TheVariants.{Neither}
use Rattle.sheet.specs.declared.Cursor.{Cursor}
use Rattle.replies.specs.declared.Refusal.TheVariants.{Operand}
use Rattle.replies.specs.Table.{Reply}
use Rattle.sheet.specs.Table.{read_at}
use Rattle.sheet.specs.Records.{start, records_of}
use Rattle.sheet.specs.Operands.{sort_of, asked_of, first_of, second_of, are_met, is_met, first_unmet, last_sort}
use Rattle.sheet.specs.Check.{solid_of, check_records}
use Rattle.sheet.proofs.Walk.{At, at-start, here, found_number, found-record, rest-is, found_below, at_next, all_read}
use Rattle.sheet.proofs.Arrays.{Reads, reads_more}

pub map-append : (xs : List Record) (r : Record) → map sort_of (xs ++ r ∷ []) ≡ map sort_of xs ++ sort_of r ∷ []
map-append [] r = refl
map-append (x ∷ xs) r = ap (λ l. sort_of x ∷ l) (map-append xs r)

last-append : (xs : List Record) (r : Record) → last_sort (xs ++ r ∷ []) ≡ sort_of r
unfolding last_sort
last-append [] r = refl
last-append (x ∷ []) r = refl
last-append (x ∷ y ∷ xs) r = last-append (y ∷ xs) r

-- the sorts of the first n records
abbrev sorts_of : List Record → ℕ → List Sort
sorts_of rs n = map sort_of (take n rs)

pub record Sorting (s : List ℕ) (sorts : List Sort) (last : Sort) (n : ℕ) (c : Cursor) : Type 0 where
  pub walk : At s c n
  pub long : length sorts ≡ 256
  pub reads : Reads (λ k. k) Neither sorts (sorts_of (records_of s) n)
  pub lately : last ≡ last_sort (take n (records_of s))
  pub same : first_unmet (sorts_of (records_of s) n) (drop n (records_of s)) ≡ first_unmet [] (records_of s)

neither : (n a : ℕ) → get_or (replicate n Neither) a Neither ≡ Neither
neither zero a = refl
neither (suc n) zero = refl
neither (suc n) (suc a) = neither n a

pub sorting_start : (s : List ℕ) (c : Cursor) → c ≡ start → Sorting s (replicate 256 Neither) Neither 0 c
unfolding last_sort
sorting_start s c e =
    record {
      walk = rw e (at-start s);
      long = refl;
      reads = neither 256;
      lately = refl;
      same = refl;
    }

-- k is what `Cursor::read` returned
module _ (s : List ℕ) (sorts : List Sort) (last : Sort) (n : ℕ) (c : Cursor) (w : Sorting s sorts last n c) (k : Result (Record × Cursor) ℕ) (is : k ≡ read_at s c) where
  abbrev rs : List Record
  rs = records_of s

  -- at a record: the code's test is that of the definition
  module _ (r : Record) (next : Cursor) (e : k ≡ Ok (r, next)) (a b : ℕ) (ask : Sort) (met : Bool)
      (ea : a ≡ first_of r) (eb : b ≡ second_of r) (ek : ask ≡ asked_of r) (em : met ≡ are_met ask (get_or sorts a Neither) (get_or sorts b Neither)) where
    tested : met ≡ is_met (sorts_of rs n) r
    tested = em ∙ rw (ek, ea, eb, w.reads (first_of r), w.reads (second_of r))

    number : n < length rs
    number = found_number s c n w.walk k is r next e

    len : length (sorts_of rs n) ≡ n
    len = length-map (take n rs) sort_of ∙ omega (arith, length-take n rs, number)

    step : first_unmet (sorts_of rs n) (drop n rs) ≡ cond met (first_unmet (sorts_of rs n ++ sort_of r ∷ []) (drop (n + 1) rs)) n
    unfolding first_unmet
    step = rw (here s c n w.walk k is r next e, ← rest-is s c n w.walk k is r next e, ← tested, len)

    pub unmet : not met ≡ true → Err (Operand n) ≡ check_records rs
    unfolding check_records
    unmet h =
        let f : first_unmet [] rs ≡ n = sym w.same ∙ step ∙ rw (not-true met h) in
        rw (f, lt-ltb n (length rs) number)

    more : take (n + 1) rs ≡ take n rs ++ r ∷ []
    more = ap (λ (k : ℕ). take k rs) (add-one n) ∙ take-suc rs n X number ∙ ap (λ (q : Record). take n rs ++ q ∷ []) (found-record s c n w.walk k is r next e X)

    sorts-more : sorts_of rs (n + 1) ≡ sorts_of rs n ++ sort_of r ∷ []
    sorts-more = ap (map sort_of) more ∙ map-append (take n rs) r

    pub sorting-next : (sort : Sort) → not met ≡ false → sort ≡ sort_of r → Sorting s (set sorts n sort) sort (n + 1) next
    sorting-next sort h f =
        record {
          walk = at_next s c n w.walk k is r next e;
          long = length-set sorts n sort ∙ w.long;
          reads = rw sorts-more (reads_more (λ q. q) Neither (sort_of r) sort sorts (sorts_of rs n) n len (omega (arith, w.long, found_below s c n w.walk k is r next e)) f w.reads);
          lately = f ∙ sym (ap last_sort more ∙ last-append (take n rs) r);
          same = ap (λ l. first_unmet l (drop (n + 1) rs)) sorts-more ∙ sym (step ∙ rw (not-false met h)) ∙ w.same;
        }

  -- at the end
  module _ (x : ℕ) (e : k ≡ Err x) where
    pub sorted-end : (reply : Reply) → reply ≡ solid_of last n → reply ≡ check_records rs
    unfolding check_records first_unmet
    sorted-end reply h =
        let m = all_read s c n w.walk k is x e in
        let t : take n rs ≡ rs = take_all n rs (omega (arith, m)) in
        let d : drop n rs ≡ [] = ap (λ (k : ℕ). drop k rs) m ∙ drop-length rs in
        let f : first_unmet [] rs ≡ length rs = sym w.same ∙ rw d (length-map (take n rs) sort_of ∙ ap length t) in
        h ∙ rw (f, le-ltb (length rs) (length rs) (omega arith), w.lately, t, m)
