-- THE FIRST READING, from its first turn to its last. Whatever lumps the reads give, a file that has been read for its form is what the reading of 02 says
-- of its bytes. That a read puts the file's next bytes behind those that wait is the one thing assumed, as a premise of each turn.
--   form_shape e         what a file is, by how its reading ends
--   FormTurns r chunk us sh   turns of the first reading from r on, over the bytes us that are not passed yet, up to one that says what the file is
--   turns-run           they are calls of `form` one after the other
--   turns-tell          THE THEOREM
--   only-tells          the only line is that of 02, Wish 12, where a file is malformed, and there is none where both are well formed
use mathlib.Core.Path.{◌≡◌, refl, sym, ap, subst, ◌∙◌}
use mathlib.Core.Bool.{true}
use mathlib.Core.List.{List, [], ◌∷◌, map}
use Prim.Native.Nat.{ℕ}
use Rattle.std.specs.Prelude.{Some, None}
use lib.ListN.{take, drop}
use Rattle.records.specs.declared.Phase.{Phase}
use Rattle.records.specs.declared.Phase.TheVariants.{Start}
use Rattle.records.specs.Reading.{Ending, clean, malformed, reading_of}
use Rattle.records.specs.Frames.{capped_ending}
use Rattle.record_front.specs.declared.Sign.{Sign}
use Rattle.record_front.specs.declared.Sign.TheVariants as sign
use Rattle.compare_events.specs.declared.Event.{Event}
use Rattle.compare_events.specs.declared.Event.TheVariants.{Same, Said, Last, Wait, Broken}
use Rattle.compare_events.specs.declared.Line.{Line}
use Rattle.compare.specs.declared.Formed.{Formed}
use Rattle.compare.specs.Differences.{judged, differences_from, comparison_of, compared_of, capped_line}
use Rattle.compare.specs.Passing.{form_of}
use Rattle.compare_meaning.proofs.Forms.{FormCall, FormRun, formed-by, unless_told, form-tells}
use Rattle.compare_files.specs.declared.Shape.{Shape}
use Rattle.compare_files.specs.declared.Shape.TheVariants.{Clean, Malformed}
use Rattle.compare_files.specs.declared.Reading.{Reading}
use Rattle.compare_files.specs.Steps.{shape_of, told_by, FormTurn, only_line}

abbrev pub form_shape : Ending → Shape
form_shape clean = Clean
form_shape (malformed p) = Malformed p

-- the bytes that wait after the read are the next ones, and the end is told only where none are left
pub record Honest (q : Reading) (chunk us : List ℕ) : Type 0 where
  pub next : take q.side.to chunk ≡ take q.side.to us
  pub ends : q.side.ends ≡ true → drop q.side.to us ≡ []

pub data FormTurns : Reading → List ℕ → List ℕ → Shape → Type 0 where
  last : {r q : Reading} {before after us : List ℕ} {sh : Shape} → FormTurn r before q after → Honest q after us → q.shape ≡ Some sh → FormTurns r before us sh
  more : {r q : Reading} {before after us : List ℕ} {sh : Shape} → FormTurn r before q after → Honest q after us → q.shape ≡ None →
      FormTurns q after (drop q.side.from us) sh → FormTurns r before us sh

pub record FormsTo (p : Phase) (at : ℕ) (us : List ℕ) (sh : Shape) : Type 0 where
  pub calls : List FormCall
  pub ending : Ending
  pub run : FormRun calls p at us ending
  pub is : sh ≡ form_shape ending

module _ (r q : Reading) (before after us : List ℕ) (t : FormTurn r before q after) (h : Honest q after us) where
  abbrev c : FormCall
  c = record { lent = q.side.to; ends = q.side.ends }

  abbrev f : Formed
  f = formed-by c r.phase r.at us

  told_is : told_by r q after ≡ f
  told_is = ap (λ (l : List ℕ). form_of r.phase r.at l q.side.ends) h.next

  shape_is : q.shape ≡ shape_of f.sign f.at
  shape_is = t.shape ∙ ap (λ (x : Formed). shape_of x.sign x.at) told_is

  -- a turn that says what the file is
  ended : (sh : Shape) → q.shape ≡ Some sh → FormsTo r.phase r.at us sh
  ended sh e = go f.sign refl (sym shape_is ∙ e)
    where
      made : (e : Ending) → unless_told f.sign f.at [] e (FormRun [] f.phase f.at (drop f.used us) e) → shape_of f.sign f.at ≡ Some (form_shape e) → FormsTo r.phase r.at us sh
      made d u w = let z : Some sh ≡ Some (form_shape d) = sym e ∙ shape_is ∙ w in record { calls = c ∷ []; ending = d; run = (h.ends, u); is = cc }

      go : (s : Sign) → f.sign ≡ s → shape_of f.sign f.at ≡ Some sh → FormsTo r.phase r.at us sh
      go sign.Record w z = absurd (let y : None ≡ Some sh = sym (ap (λ (x : Sign). shape_of x f.at) w) ∙ z in cc)
      go sign.Gone w z =
          made clean (subst (λ (x : Sign). unless_told x f.at [] clean (FormRun [] f.phase f.at (drop f.used us) clean)) (sym w) (refl, refl)) (ap (λ (x : Sign). shape_of x f.at) w)
      go sign.More w z = absurd (let y : None ≡ Some sh = sym (ap (λ (x : Sign). shape_of x f.at) w) ∙ z in cc)
      go sign.Bad w z =
          made (malformed f.at)
          (subst (λ (x : Sign). unless_told x f.at [] (malformed f.at) (FormRun [] f.phase f.at (drop f.used us) (malformed f.at))) (sym w) (refl, refl))
          (ap (λ (x : Sign). shape_of x f.at) w)

  -- a turn after which the reading goes on
  goes_on : q.shape ≡ None → (sh : Shape) → FormsTo q.phase q.at (drop q.side.from us) sh → FormsTo r.phase r.at us sh
  goes_on e sh k =
      record { calls = c ∷ k.calls; ending = k.ending; run = (h.ends, go f.sign refl (sym shape_is ∙ e)); is = k.is }
    where
      later : FormRun k.calls f.phase f.at (drop f.used us) k.ending
      later =
          subst (λ (x : Formed). FormRun k.calls x.phase x.at (drop x.used us) k.ending) told_is
          (subst (λ (x : ℕ). FormRun k.calls (told_by r q after).phase (told_by r q after).at (drop x us) k.ending) t.used
          (subst (λ (x : ℕ). FormRun k.calls (told_by r q after).phase x (drop q.side.from us) k.ending) t.at
          (subst (λ (x : Phase). FormRun k.calls x q.at (drop q.side.from us) k.ending) t.phase k.run)))

      no : {s : Sign} {x : Shape} → f.sign ≡ s → shape_of s f.at ≡ Some x → shape_of f.sign f.at ≡ None → ⊥
      no {s} {x} w y z = let v : None ≡ Some x = sym z ∙ ap (λ (t : Sign). shape_of t f.at) w ∙ y in cc

      go : (s : Sign) → f.sign ≡ s → shape_of f.sign f.at ≡ None →
          unless_told f.sign f.at k.calls k.ending (FormRun k.calls f.phase f.at (drop f.used us) k.ending)
      go sign.Record w z = subst (λ (s : Sign). unless_told s f.at k.calls k.ending (FormRun k.calls f.phase f.at (drop f.used us) k.ending)) (sym w) later
      go sign.Gone w z = absurd (no w refl z)
      go sign.More w z = subst (λ (s : Sign). unless_told s f.at k.calls k.ending (FormRun k.calls f.phase f.at (drop f.used us) k.ending)) (sym w) later
      go sign.Bad w z = absurd (no w refl z)

pub turns-run : {r : Reading} {chunk us : List ℕ} {sh : Shape} → FormTurns r chunk us sh → FormsTo r.phase r.at us sh
turns-run (last {r = r} {q = q} {before = before} {after = after} {us = us} {sh = sh} t h e) = ended r q before after us t h sh e
turns-run (more {r = r} {q = q} {before = before} {after = after} {us = us} {sh = sh} t h e m) = goes_on r q before after us t h e sh (turns-run m)

pub turns-tell : {r : Reading} {chunk us : List ℕ} {sh : Shape} → r.phase ≡ Start → r.at ≡ 0 → FormTurns r chunk us sh → sh ≡ form_shape (capped_ending (reading_of us).ending)
turns-tell {r = r} {us = us} {sh = sh} p a m =
    let k : FormsTo Start 0 us sh = subst (λ (x : Phase). FormsTo x 0 us sh) p (subst (λ (x : ℕ). FormsTo r.phase x us sh) a (turns-run m)) in
    k.is ∙ ap form_shape (form-tells k.calls us k.ending k.run)

-- the line that is said alone
abbrev pub OnlyTells : Event → List Line → Type 0
OnlyTells Same ls = Unit {0}
OnlyTells (Said l) ls = ⊥
OnlyTells (Last l) ls = l ∷ [] ≡ ls
OnlyTells Wait ls = ⊥
OnlyTells Broken ls = ⊥

pub only-tells : (xs ys : List ℕ) → OnlyTells (only_line (form_shape (capped_ending (reading_of xs).ending)) (form_shape (capped_ending (reading_of ys).ending))) (map capped_line (compared_of xs ys))
unfolding comparison_of
only-tells xs ys = go (reading_of xs).ending (reading_of ys).ending
  where
    go : (e d : Ending) → OnlyTells (only_line (form_shape (capped_ending e)) (form_shape (capped_ending d))) (map capped_line (judged e d (differences_from 0 (reading_of xs).records (reading_of ys).records)))
    go (malformed p) d = refl
    go clean (malformed p) = refl
    go clean clean = tt
