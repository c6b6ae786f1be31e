-- THE SECOND READING, from its first turn to its last, and THE WHOLE PROGRAM: whatever lumps the reads give, what is said of two files is the comparison
-- of 02, Wish 12, of their bytes. That a read puts a file's next bytes behind those that wait is the one thing assumed, as a premise of each turn.
--   Next b one two us vs     what waits on both sides is the next bytes of each file, and an end is told only where none are left
--   SideTurns b us vs ls     turns of the second reading from b on, over the bytes that are not passed yet, which said the lines ls, the last one last
--   sides-run                they are calls of `next` one after the other
--   Compares xs ys ls        both files read for their form, and then the only line or the second reading: the lines ls were said
--   compares-lines           THE THEOREM
use mathlib.Core.Path.{◌≡◌, refl, sym, ap, ap₂, subst, ◌∙◌}
use mathlib.Core.Bool.{Bool, true, false}
use mathlib.Core.List.{List, [], ◌∷◌, ◌++◌, map}
use Prim.Native.Nat.{ℕ, ◌-◌}
use native.Mathlib.Omega.{arith}
use lib.ListN.{take, drop}
use Rattle.records.specs.declared.Phase.TheVariants.{Start}
use Rattle.records.specs.Reading.{Ending, clean, malformed, reading_of}
use Rattle.records.specs.Frames.{capped_ending}
use Rattle.compare_events.specs.declared.Event.{Event}
use Rattle.compare_events.specs.declared.Event.TheVariants.{Same, Said, Last, Wait, Broken}
use Rattle.compare_events.specs.declared.Line.{Line}
use Rattle.compare.specs.declared.Pass.{Pass}
use Rattle.compare.specs.Differences.{compared_of, capped_line}
use Rattle.compare.specs.Passing.{pass_of, fresh_pass}
use Rattle.compare_meaning.proofs.Meaning.{Call, called, Run, unless_last, spoken, printed, compare-prints}
use Rattle.compare_files.specs.declared.Shape.{Shape}
use Rattle.compare_files.specs.declared.Reading.{Reading}
use Rattle.compare_files.specs.declared.Both.{Both}
use Rattle.compare_files.specs.Steps.{waiting, SideTurn, only_line}
use Rattle.compare_files.proofs.FormTurns.{form_shape, FormTurns, turns-tell, OnlyTells, only-tells}

pub record Next (b : Both) (one two us vs : List ℕ) : Type 0 where
  pub first : waiting b.first one ≡ take (b.first.to - b.first.from) us
  pub second : waiting b.second two ≡ take (b.second.to - b.second.from) vs
  pub ends : b.first.ends ≡ true → drop (b.first.to - b.first.from) us ≡ []
  pub closes : b.second.ends ≡ true → drop (b.second.to - b.second.from) vs ≡ []

abbrev pub is_last : Event → Bool
is_last Same = false
is_last (Said l) = false
is_last (Last l) = true
is_last Wait = false
is_last Broken = false

pub data SideTurns : Both → List ℕ → List ℕ → List Line → Type 0 where
  last : {b r : Both} {one two us vs page page' : List ℕ} (l : Line) → SideTurn b one two page r page' → Next b one two us vs → r.pass.event ≡ Last l → SideTurns b us vs (l ∷ [])
  -- the reads before the next turn leave the pass as it is
  more : {b r b' : Both} {one two us vs page page' : List ℕ} {ls : List Line} → SideTurn b one two page r page' → Next b one two us vs → is_last r.pass.event ≡ false →
      b'.pass ≡ r.pass → SideTurns b' (drop r.pass.here us) (drop r.pass.there vs) ls → SideTurns b us vs (spoken r.pass.event ++ ls)

pub record SidesTo (p : Pass) (us vs : List ℕ) (ls : List Line) : Type 0 where
  pub calls : List Call
  pub run : Run calls p us vs
  pub prints : printed calls p us vs ≡ ls

module _ (b r : Both) (one two us vs page page' : List ℕ) (t : SideTurn b one two page r page') (n : Next b one two us vs) where
  abbrev c : Call
  c = record { first = b.first.to - b.first.from; second = b.second.to - b.second.from; ends = b.first.ends; closes = b.second.ends }

  -- the pass is that of the call
  pass-is : r.pass ≡ called c b.pass us vs
  pass-is = t.pass ∙ ap₂ (λ (x y : List ℕ). pass_of b.pass x y b.first.ends b.second.ends) n.first n.second

  over : (l : Line) → r.pass.event ≡ Last l → SidesTo b.pass us vs (l ∷ [])
  over l e =
      let f : (called c b.pass us vs).event ≡ Last l = ap (λ (p : Pass). p.event) (sym pass-is) ∙ e in
      record {
        calls = c ∷ [];
        run = (
          record { ends = n.ends; closes = n.closes },
          subst (λ (v : Event). unless_last v [] (Run [] (called c b.pass us vs) (drop (called c b.pass us vs).here us) (drop (called c b.pass us vs).there vs))) (sym f) refl,
        );
        prints = ap (λ (v : Event). spoken v ++ []) f;
      }

  goes_on : is_last r.pass.event ≡ false → (ls : List Line) → SidesTo r.pass (drop r.pass.here us) (drop r.pass.there vs) ls → SidesTo b.pass us vs (spoken r.pass.event ++ ls)
  goes_on e ls s =
      let k = subst (λ (p : Pass). SidesTo p (drop p.here us) (drop p.there vs) ls) pass-is s in
      record {
        calls = c ∷ k.calls;
        run = (record { ends = n.ends; closes = n.closes }, on (called c b.pass us vs).event (ap (λ (p : Pass). is_last p.event) (sym pass-is) ∙ e) k.calls k.run);
        prints = ap₂ (λ (v : Event) (m : List Line). spoken v ++ m) (ap (λ (p : Pass). p.event) (sym pass-is)) k.prints;
      }
    where
      on : (v : Event) → is_last v ≡ false → (cs : List Call) {t : Type 0} → t → unless_last v cs t
      on Same z cs h = h
      on (Said l) z cs h = h
      on (Last l) z cs h = absurd (let y : ◌≡◌ {A = ℕ} 0 1 = cc in omega arith)
      on Wait z cs h = h
      on Broken z cs h = h

pub sides-run : {b : Both} {us vs : List ℕ} {ls : List Line} → SideTurns b us vs ls → SidesTo b.pass us vs ls
sides-run (last {b = b} {r = r} {one = one} {two = two} {us = us} {vs = vs} {page = page} {page' = page'} l t n e) = over b r one two us vs page page' t n l e
sides-run (more {b = b} {r = r} {b' = b'} {one = one} {two = two} {us = us} {vs = vs} {page = page} {page' = page'} {ls = ls} t n e p m) =
    goes_on b r one two us vs page page' t n e ls (subst (λ (q : Pass). SidesTo q (drop r.pass.here us) (drop r.pass.there vs) ls) p (sides-run m))

-- ---- the whole program

-- a file read for its form, from its first byte
pub record Shaped (us : List ℕ) (sh : Shape) : Type 0 where
  pub from : Reading
  pub chunk : List ℕ
  pub phase : from.phase ≡ Start
  pub at : from.at ≡ 0
  pub turns : FormTurns from chunk us sh

pub data Compares (xs ys : List ℕ) : List Line → Type 0 where
  alone : (a c : Shape) → Shaped xs a → Shaped ys c → (l : Line) → only_line a c ≡ Last l → Compares xs ys (l ∷ [])
  side_by_side : (a c : Shape) → Shaped xs a → Shaped ys c → only_line a c ≡ Same → (b : Both) → b.pass ≡ fresh_pass → (ls : List Line) → SideTurns b xs ys ls → Compares xs ys ls

shape_is : (us : List ℕ) (sh : Shape) → Shaped us sh → sh ≡ form_shape (capped_ending (reading_of us).ending)
shape_is us sh s = turns-tell s.phase s.at s.turns

-- no line is said alone exactly if both are well formed
both-clean : (e d : Ending) → only_line (form_shape (capped_ending e)) (form_shape (capped_ending d)) ≡ Same → (e ≡ clean) × (d ≡ clean)
both-clean (malformed p) d h = absurd (let z : ◌≡◌ {A = ℕ} 0 1 = cc in omega arith)
both-clean clean (malformed p) h = absurd (let z : ◌≡◌ {A = ℕ} 0 1 = cc in omega arith)
both-clean clean clean h = (refl, refl)

pub compares-lines : (xs ys : List ℕ) (ls : List Line) → Compares xs ys ls → ls ≡ map capped_line (compared_of xs ys)
compares-lines xs ys ls (alone a c s t l e) =
    let f : only_line (form_shape (capped_ending (reading_of xs).ending)) (form_shape (capped_ending (reading_of ys).ending)) ≡ Last l =
    ap₂ only_line (sym (shape_is xs a s)) (sym (shape_is ys c t)) ∙ e in
    subst (λ (v : Event). OnlyTells v (map capped_line (compared_of xs ys))) f (only-tells xs ys)
compares-lines xs ys ls (side_by_side a c s t e b p ls' m) =
    let f : only_line (form_shape (capped_ending (reading_of xs).ending)) (form_shape (capped_ending (reading_of ys).ending)) ≡ Same =
    ap₂ only_line (sym (shape_is xs a s)) (sym (shape_is ys c t)) ∙ e in
    let g = both-clean (reading_of xs).ending (reading_of ys).ending f in
    let k = subst (λ (q : Pass). SidesTo q xs ys ls) p (sides-run m) in
    sym k.prints ∙ compare-prints k.calls xs ys g.0 g.1 k.run
