-- One pair of records further: what the code computes is `pair_step`.
use mathlib.Core.Path.{◌≡◌, refl, sym, ap, subst, ◌∙◌}
use mathlib.Core.Bool.{Bool, true, false, cond}
use mathlib.Core.List.{List}
use Prim.Native.Nat.{ℕ, ◌+◌, ◌-◌}
use native.Mathlib.Omega.{arith}
use lib.ListN.{length, take, drop, length-drop}
use lib.Seq.{take_all}
use Rattle.text.specs.Token.{same_bytes}
use Rattle.records.specs.declared.Phase.{Phase}
use Rattle.record_front.specs.declared.Front.{Front}
use Rattle.records.specs.Frames.{capped}
use Rattle.record_front.specs.Fronts.{front_of}
use Rattle.compare_events.specs.declared.Line.{Line}
use Rattle.compare_events.specs.declared.Event.{Event}
use Rattle.compare_events.specs.declared.Event.TheVariants.{Same, Said, Last, Wait, Broken}
use Rattle.compare.specs.declared.Pass.{Pass}
use Rattle.compare_events.specs.Events.{judge}
use Rattle.compare.specs.Passing.{takes, line_more, moved, halted, event_of, moved_by, pair_step}

-- the part of a lump from a place on
pub rest_part : (i : ℕ) (bs : List ℕ) → take (length bs - i) (drop i bs) ≡ drop i bs
rest_part i bs = take_all (length bs - i) (drop i bs) (omega (arith, length-drop i bs))

-- the part from a place on, m bytes long
pub mid-part : (i m : ℕ) (bs : List ℕ) → take (i + m - i) (drop i bs) ≡ take m (drop i bs)
mid-part i m bs = let e : i + m - i ≡ m = omega arith in rw e

pub looked : (w : Front) (p : Phase) (i : ℕ) (bs : List ℕ) (ends : Bool) → w ≡ front_of p (take (length bs - i) (drop i bs)) ends → w ≡ front_of p (drop i bs) ends
looked w p i bs ends e = e ∙ ap (λ (l : List ℕ). front_of p l ends) (rest_part i bs)

-- one pair of records further, as the code has it
module _ (p : Pass) (xs ys : List ℕ) (ends closes : Bool) (a b : Front) (t : Bool) (e : Event) where
  abbrev Looks : Type 0
  Looks = a ≡ front_of p.first (take (length xs - p.here) (drop p.here xs)) ends

  abbrev LooksToo : Type 0
  LooksToo = b ≡ front_of p.second (take (length ys - p.there) (drop p.there ys)) closes

  abbrev Tells : Type 0
  Tells = t ≡ same_bytes (take (p.here + a.length - p.here) (drop p.here xs)) (take (p.there + b.length - p.there) (drop p.there ys))

  abbrev Judges : Type 0
  Judges = e ≡ judge a.sign b.sign t p.number p.lines

  pair-event : Tells → Judges → e ≡ event_of p xs ys a b
  pair-event s j = j ∙ ap (λ (z : Bool). judge a.sign b.sign z p.number p.lines) (s ∙ rw (mid-part p.here a.length xs, mid-part p.there b.length ys))

  pair_is : Looks → LooksToo → Tells → Judges → moved_by p e a b ≡ pair_step p xs ys ends closes
  unfolding pair_step
  pair_is l k s j = rw (sym (looked a p.first p.here xs ends l), sym (looked b p.second p.there ys closes k), sym (pair-event s j))

  pub pair-halts : Looks → LooksToo → Tells → Judges → takes e ≡ false → halted p e ≡ pair_step p xs ys ends closes
  pair-halts l k s j h = subst (λ (z : Bool). cond z (moved p e a b) (halted p e) ≡ pair_step p xs ys ends closes) h (pair_is l k s j)

  pub pair-moves : Looks → LooksToo → Tells → Judges → takes e ≡ true → (number lines : ℕ) → number ≡ capped (p.number + 1) → lines ≡ line_more e p.lines
      → record { event = e; first = a.phase; second = b.phase; number = number; lines = lines; here = p.here + a.length; there = p.there + b.length } ≡ pair_step p xs ys ends closes
  pair-moves l k s j h number lines u v =
      rw (u, v) (subst (λ (z : Bool). cond z (moved p e a b) (halted p e) ≡ pair_step p xs ys ends closes) h (pair_is l k s j))

-- an event by which nothing is passed
pub not_taken : (e : Event) → (e ≡ Same → ⊥) → ((l : Line) → e ≡ Said l → ⊥) → takes e ≡ false
not_taken Same n m = absurd (n refl)
not_taken (Said l) n m = absurd (m l refl)
not_taken (Last l) n m = refl
not_taken Wait n m = refl
not_taken Broken n m = refl
