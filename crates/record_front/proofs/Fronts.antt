-- The front of some bytes is the front of the reading: what `look` says of them holds whatever comes after them.
--   standing            the front by its tests
--   rest_of p at bs     the reading of bs in phase p from the offset `at` on; rest-none, rest-bad, rest-cut, rest-unfit, rest-record: by the first byte
--   Taken, Stays, Ended, Says   what a front says of the reading of bs and of all that comes after
--   look-passes        THE LAW: a whole record, the end and a malformed place are told as the reading has them
use mathlib.Core.Path.{◌≡◌, refl}
use mathlib.Core.Bool.{Bool, true, false, cond}
use mathlib.Core.List.{List, [], ◌∷◌, ◌++◌, append-nil}
use Prim.Native.Nat.{ℕ, zero, suc, ◌+◌, ◌≤◌, ◌<◌}
use native.Mathlib.Omega.{arith}
use native.Mathlib.Numerals.{add-one}
use borrow.Author.Tests.{le-leb, lt-leb, leb-true, leb-false}
use lib.Dec.{leb}
use lib.ListN.{length, take, drop, length-append, length-drop}
use lib.Seq.{take-append-le, drop-append-le}
use Rattle.records.specs.declared.Phase.{Phase}
use Rattle.records.specs.declared.Phase.TheVariants.{Start}
use Rattle.record_front.specs.declared.Sign.{Sign}
use Rattle.record_front.specs.declared.Sign.TheVariants as sign
use Rattle.record_front.specs.declared.Front.{Front}
use Rattle.records.specs.Kinds.{kind_of, may_stand, after_role, begins}
use Rattle.records.specs.Values.{Entry, entry, body_fits}
use Rattle.records.specs.Reading.{Ending, clean, malformed, Reading, stops_at, followed_by, nothing_more, reading_from, reading_of}
use Rattle.record_front.specs.Fronts.{empty_of, cut_of, stopped, front_of}

-- the front by its tests: it may stand there, it is whole, its body fits
abbrev pub standing : Phase → ℕ → Bool → Bool → Bool → Bool → Front
standing p k ends b t u =
    cond b
    (cond t (cond u (record { sign = sign.Record; length = (kind_of k).size + 1; phase = after_role p (kind_of k).role }) (stopped p sign.Bad)) (stopped p (cut_of ends)))
    (stopped p sign.Bad)

-- ---- the reading, with no number of steps

none_left : (j : ℕ) → suc j ≤ 0 → ⊥
none_left j h = omega arith

steps-free : (n m : ℕ) (p : Phase) (at : ℕ) (bs : List ℕ) → length bs ≤ n → length bs ≤ m → reading_from n p at bs ≡ reading_from m p at bs
unfolding reading_from
steps-free zero zero p at bs h l = refl
steps-free zero (suc m) p at [] h l = refl
steps-free zero (suc m) p at (k ∷ bs) h l = absurd (none_left (length bs) h)
steps-free (suc n) zero p at [] h l = refl
steps-free (suc n) zero p at (k ∷ bs) h l = absurd (none_left (length bs) l)
steps-free (suc n) (suc m) p at [] h l = refl
steps-free (suc n) (suc m) p at (k ∷ bs) h l =
    let z = (kind_of k).size in
    let q = after_role p (kind_of k).role in
    let e : reading_from n q (at + 1 + z) (drop z bs) ≡ reading_from m q (at + 1 + z) (drop z bs) = steps-free n m q _ (drop z bs) (omega (arith, length-drop z bs)) (omega (arith, length-drop z bs)) in
    rw e

unfoldable pub rest_of : Phase → ℕ → List ℕ → Reading
rest_of p at bs = reading_from (length bs) p at bs

pub rest-whole : (bs : List ℕ) → rest_of Start 0 bs ≡ reading_of bs
unfolding rest_of reading_of
rest-whole bs = refl

pub rest-none : (p : Phase) (at : ℕ) → rest_of p at [] ≡ nothing_more p at
unfolding rest_of reading_from
rest-none p at = refl

pub rest-bad : (p : Phase) (at k : ℕ) (bs : List ℕ) → may_stand p (kind_of k).role ≡ false → rest_of p at (k ∷ bs) ≡ stops_at (malformed at)
unfolding rest_of reading_from
rest-bad p at k bs e = rw e

pub rest-cut : (p : Phase) (at k : ℕ) (bs : List ℕ) → may_stand p (kind_of k).role ≡ true → length bs < (kind_of k).size → rest_of p at (k ∷ bs) ≡ stops_at (malformed at)
unfolding rest_of reading_from
rest-cut p at k bs e l = rw (e, lt-leb (kind_of k).size (length bs) l)

pub rest-unfit : (p : Phase) (at k : ℕ) (bs : List ℕ) → may_stand p (kind_of k).role ≡ true → (kind_of k).size ≤ length bs
    → body_fits k (take (kind_of k).size bs) ≡ false → rest_of p at (k ∷ bs) ≡ stops_at (malformed at)
unfolding rest_of reading_from
rest-unfit p at k bs e l f = rw (e, le-leb (kind_of k).size (length bs) l, f)

pub rest-record : (p : Phase) (at k : ℕ) (bs : List ℕ) → may_stand p (kind_of k).role ≡ true → (kind_of k).size ≤ length bs
    → body_fits k (take (kind_of k).size bs) ≡ true
    → rest_of p at (k ∷ bs) ≡ followed_by (entry k (take (kind_of k).size bs)) (rest_of (after_role p (kind_of k).role) (at + ((kind_of k).size + 1)) (drop (kind_of k).size bs))
unfolding rest_of reading_from
rest-record p at k bs e l f =
    let z = (kind_of k).size in
    let q = after_role p (kind_of k).role in
    let a : at + (z + 1) ≡ at + 1 + z = omega arith in
    let s : reading_from (length bs) q (at + 1 + z) (drop z bs) ≡ reading_from (length (drop z bs)) q (at + 1 + z) (drop z bs) = steps-free (length bs)
    (length (drop z bs)) q _ (drop z bs) (omega (arith, length-drop z bs)) (omega arith) in
    rw (e, le-leb z (length bs) l, f, a, s)

-- ---- what a front says

pub record Taken (p : Phase) (at : ℕ) (bs more : List ℕ) (f : Front) : Type 0 where
  pub entry : Entry
  pub bytes : take f.length bs ≡ entry.kind ∷ entry.body
  pub some : 0 < f.length
  pub within : f.length ≤ length bs
  pub rest : rest_of p at (bs ++ more) ≡ followed_by entry (rest_of f.phase (at + f.length) (drop f.length bs ++ more))

-- nothing is passed
pub record Stays (p : Phase) (f : Front) : Type 0 where
  pub length : f.length ≡ 0
  pub phase : f.phase ≡ p

pub record Ended (p : Phase) (at : ℕ) (bs more : List ℕ) (f : Front) (e : Ending) : Type 0 where
  pub stays : Stays p f
  pub rest : rest_of p at (bs ++ more) ≡ stops_at e

abbrev pub Says : Sign → Phase → ℕ → List ℕ → List ℕ → Front → Type 0
Says sign.Record p at bs more f = Taken p at bs more f
Says sign.Gone p at bs more f = Ended p at bs more f clean
Says sign.More p at bs more f = Stays p f
Says sign.Bad p at bs more f = Ended p at bs more f (malformed at)

abbrev pub Passes : Phase → ℕ → List ℕ → List ℕ → Front → Type 0
Passes p at bs more f = Says f.sign p at bs more f

module _ (p : Phase) (at : ℕ) where
  same : {s : Sign} → Stays p (stopped p s)
  same = record { length = refl; phase = refl }

  no_byte : (ends : Bool) (more : List ℕ) → (ends ≡ true → more ≡ []) → Passes p at [] more (stopped p (empty_of p ends))
  no_byte false more h = same
  no_byte true more h = go (begins p) refl
    where
      go : (b : Bool) → begins p ≡ b → Passes p at [] more (stopped p (cond b sign.Gone sign.Bad))
      go true e = record { stays = same; rest = rw (h refl, rest-none p at, e) }
      go false e = record { stays = same; rest = rw (h refl, rest-none p at, e) }

  module _ (k : ℕ) (bs more : List ℕ) where
    abbrev size : ℕ
    size = (kind_of k).size

    abbrev after : Phase
    after = after_role p (kind_of k).role

    -- what is behind the body does not change it
    same_body : (t : Bool) → size ≤ length bs → body_fits k (take size bs) ≡ t → body_fits k (take size (bs ++ more)) ≡ t
    same_body t l f = rw (take-append-le size bs more l) f

    unfit-record : may_stand p (kind_of k).role ≡ true → size ≤ length bs → body_fits k (take size bs) ≡ false → Ended p at (k ∷ bs) more (stopped p sign.Bad) (malformed at)
    unfit-record e l f = record { stays = same; rest = rest-unfit p at k (bs ++ more) e (omega (arith, length-append bs more)) (same_body false l f) }

    whole-record : may_stand p (kind_of k).role ≡ true → size ≤ length bs → body_fits k (take size bs) ≡ true → Taken p at (k ∷ bs) more (record { sign = sign.Record; length = size + 1; phase = after })
    whole-record e l f =
        record {
          entry = entry k (take size bs);
          bytes = rw add-one;
          some = omega arith;
          within = omega arith;
          rest = rw (add-one, ← drop-append-le size bs more l, ← take-append-le size bs more l, ← add-one)
              (rest-record p at k (bs ++ more) e (omega (arith, length-append bs more)) (same_body true l f));
        }

    cut_record : (ends : Bool) → (ends ≡ true → more ≡ []) → may_stand p (kind_of k).role ≡ true → length bs < size → Passes p at (k ∷ bs) more (stopped p (cut_of ends))
    cut_record false h e l = same
    cut_record true h e l = record { stays = same; rest = rw (h refl, append-nil bs) (rest-cut p at k bs e l) }

  pub look-passes : (bs : List ℕ) (ends : Bool) (more : List ℕ) → (ends ≡ true → more ≡ []) → Passes p at bs more (front_of p bs ends)
  unfolding front_of
  look-passes [] ends more h = no_byte ends more h
  look-passes (k ∷ bs) ends more h =
      go (may_stand p (kind_of k).role) refl (leb (kind_of k).size (length bs)) refl (body_fits k (take (kind_of k).size bs)) refl
    where
      go : (b : Bool) → may_stand p (kind_of k).role ≡ b → (t : Bool) → leb (kind_of k).size (length bs) ≡ t → (u : Bool) → body_fits k (take (kind_of k).size bs) ≡ u
          → Passes p at (k ∷ bs) more (standing p k ends b t u)
      go false e t w u f = record { stays = same; rest = rest-bad p at k (bs ++ more) e }
      go true e true w true f = whole-record k bs more e (leb-true (kind_of k).size (length bs) w) f
      go true e true w false f = unfit-record k bs more e (leb-true (kind_of k).size (length bs) w) f
      go true e false w u f = cut_record k bs more ends h e (leb-false (kind_of k).size (length bs) w)

-- a front lies within the bytes
pub front-within : (p : Phase) (bs : List ℕ) (ends : Bool) → (front_of p bs ends).length ≤ length bs
unfolding front_of
front-within p [] ends = omega arith
front-within p (k ∷ bs) ends = go (may_stand p (kind_of k).role) (leb (kind_of k).size (length bs)) refl (body_fits k (take (kind_of k).size bs))
  where
    go : (b t : Bool) → leb (kind_of k).size (length bs) ≡ t → (u : Bool) → (standing p k ends b t u).length ≤ length (k ∷ bs)
    go false t w u = omega arith
    go true true w true = let h : (kind_of k).size ≤ length bs = leb-true (kind_of k).size (length bs) w in omega arith
    go true true w false = omega arith
    go true false w u = omega arith
