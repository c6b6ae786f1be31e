-- THE WHOLE COMPARISON, malformed input included: the steps that the program takes over two captures, from the first byte to the last line. Each is
-- read for its form, the first capture first; a malformed one is the only line; else both are read side by side.
--   Comparing xs ys ls    such steps over the captures xs and ys have printed the lines ls, whatever lumps the bytes came in
--   comparing-prints      THE THEOREM: these are the lines of 02, Wish 12, for any two captures
--   comparing-text        and so are the bytes
--   some-form             calls that are lent all there is come to the capture's end or its malformed place
--   some-comparing        so there are such steps for any two captures
use mathlib.Core.Path.{◌≡◌, refl, sym, ap, subst}
use mathlib.Core.Bool.{Bool, true, false, cond}
use mathlib.Core.List.{List, [], ◌∷◌, map}
use Prim.Native.Nat.{ℕ, zero, suc, ◌+◌, ◌≤◌}
use native.Mathlib.Omega.{arith}
use lib.ListN.{length, drop, length-drop, drop_of_length-le}
use lib.Seq.{drop-length, take-length}
use Rattle.records.specs.declared.Phase.{Phase}
use Rattle.records.specs.declared.Phase.TheVariants.{Start}
use Rattle.records.specs.Kinds.{begins}
use Rattle.records.specs.Reading.{Ending, clean, malformed, reading_of}
use Rattle.records.specs.Frames.{capped, capped_ending}
use Rattle.record_front.specs.declared.Sign.{Sign}
use Rattle.record_front.specs.declared.Sign.TheVariants as sign
use Rattle.record_front.specs.Fronts.{front_of}
use Rattle.record_front.proofs.Fronts.{look-passes, Says, front-within}
use Rattle.compare_events.specs.declared.Line.{Line}
use Rattle.compare_events.specs.declared.Line.TheVariants.{FirstMalformed, SecondMalformed}
use Rattle.compare_text.specs.Says.{text_of}
use Rattle.compare.specs.declared.Formed.{Formed}
use Rattle.compare.specs.Differences.{comparison_of, compared_of, capped_line}
use Rattle.compare.specs.Passing.{is_record, form_step, form_from, form_of, fresh_pass}
use Rattle.compare_meaning.proofs.Meaning.{Call, Run, printed, compare-prints, untrue}
use Rattle.compare_meaning.proofs.Forms.{FormCall, FormRun, formed-by, unless_told, form-tells}
use Rattle.compare_meaning.proofs.Runs.{some-run}
use Rattle.compare_meaning.proofs.Runs as runs

-- "Malformed input gives one line only, `first malformed P` or `second malformed P`, the first checked first"
pub data Comparing (xs ys : List ℕ) : List Line → Type 0 where
  first-malformed : (cs : List FormCall) (p : ℕ) → FormRun cs Start 0 xs (malformed p) → Comparing xs ys (FirstMalformed p ∷ [])
  second-malformed : (cs ds : List FormCall) (p : ℕ) → FormRun cs Start 0 xs clean → FormRun ds Start 0 ys (malformed p) → Comparing xs ys (SecondMalformed p ∷ [])
  side_by_side : (cs ds : List FormCall) (es : List Call) → FormRun cs Start 0 xs clean → FormRun ds Start 0 ys clean → Run es fresh_pass xs ys →
      Comparing xs ys (printed es fresh_pass xs ys)

-- ---- what they print

was-clean : (e : Ending) → clean ≡ capped_ending e → e ≡ clean
was-clean clean h = refl
was-clean (malformed p) h = absurd (let z : ◌≡◌ {A = ℕ} 0 1 = cc in omega arith)

was-malformed : (e : Ending) (p : ℕ) → malformed p ≡ capped_ending e → (q : ℕ) × (e ≡ malformed q) × (p ≡ capped q)
was-malformed clean p h = absurd (let z : ◌≡◌ {A = ℕ} 0 1 = cc in omega arith)
was-malformed (malformed q) p h = (q, refl, cc)

pub comparing-prints : (xs ys : List ℕ) (ls : List Line) → Comparing xs ys ls → ls ≡ map capped_line (compared_of xs ys)
unfolding comparison_of
comparing-prints xs ys ls (first-malformed cs p h) =
    let (q, e, f) = was-malformed (reading_of xs).ending p (form-tells cs xs (malformed p) h) in
    rw e (ap (λ (n : ℕ). FirstMalformed n ∷ []) f)
comparing-prints xs ys ls (second-malformed cs ds p h k) =
    let c = was-clean (reading_of xs).ending (form-tells cs xs clean h) in
    let (q, e, f) = was-malformed (reading_of ys).ending p (form-tells ds ys (malformed p) k) in
    rw (c, e) (ap (λ (n : ℕ). SecondMalformed n ∷ []) f)
comparing-prints xs ys ls (side_by_side cs ds es h k r) =
    compare-prints es xs ys (was-clean (reading_of xs).ending (form-tells cs xs clean h)) (was-clean (reading_of ys).ending (form-tells ds ys clean k)) r

pub comparing-text : (xs ys : List ℕ) (ls : List Line) → Comparing xs ys ls → text_of ls ≡ text_of (map capped_line (compared_of xs ys))
comparing-text xs ys ls h = ap text_of (comparing-prints xs ys ls h)

-- ---- there are such steps

-- where the capture has no more bytes and none is left to look at, it ends or is malformed
abbrev Done : Sign → Type 0
Done sign.Record = ⊥
Done sign.Gone = Unit {0}
Done sign.More = ⊥
Done sign.Bad = Unit {0}

none_left : (p : Phase) (bs : List ℕ) → bs ≡ [] → Done (front_of p bs true).sign
unfolding front_of
none_left p bs e = rw e (go (begins p))
  where
    go : (b : Bool) → Done (cond b sign.Gone sign.Bad)
    go true = tt
    go false = tt

done-by : (s : Sign) → runs.Told s → is_record s ≡ false → Done s
done-by sign.Record t e = absurd (untrue (sym e))
done-by sign.Gone t e = tt
done-by sign.More t e = t
done-by sign.Bad t e = tt

-- each record that is passed has a byte, so as many looks as there are bytes, and one, are enough
module _ (bs : List ℕ) where
  form-ends : (j : ℕ) (f : Formed) → f.used ≤ length bs → length bs ≤ f.used + j → Done (form_from j f bs true).sign
  unfolding form_step
  form-ends zero f h l = none_left f.phase (drop f.used bs) (drop_of_length-le bs {i = f.used} (omega arith))
  form-ends (suc j) f h l = go (is_record (form_step f bs true).sign) refl (form-ends j (form_step f bs true))
    where
      fits : f.used + (front_of f.phase (drop f.used bs) true).length ≤ length bs
      fits = omega (arith, front-within f.phase (drop f.used bs) true, length-drop f.used bs)

      some : (s : Sign) → is_record s ≡ true → Says s f.phase 0 (drop f.used bs) [] (front_of f.phase (drop f.used bs) true) → 1 ≤ (front_of f.phase (drop f.used bs) true).length
      some sign.Record e t = t.some
      some sign.Gone e t = absurd (untrue e)
      some sign.More e t = absurd (untrue e)
      some sign.Bad e t = absurd (untrue e)

      go : (b : Bool) → is_record (form_step f bs true).sign ≡ b → ((form_step f bs true).used ≤ length bs → length bs ≤ (form_step f bs true).used + j → Done (form_from j (form_step f bs true) bs true).sign) →
          Done (cond b (form_from j (form_step f bs true) bs true) (form_step f bs true)).sign
      go true e ih =
          let s = some (form_step f bs true).sign e (look-passes f.phase 0 (drop f.used bs) true [] (λ _. refl)) in
          ih fits (omega arith)
      go false e ih = done-by (form_step f bs true).sign (runs.all_told f.phase (drop f.used bs)) e

pub record SomeForm (us : List ℕ) : Type 0 where
  pub calls : List FormCall
  pub ending : Ending
  pub run : FormRun calls Start 0 us ending

module _ (us : List ℕ) where
  abbrev all : FormCall
  all = record { lent = length us; ends = true }

  abbrev f : Formed
  f = formed-by all Start 0 us

  told : Done f.sign
  told =
      subst (λ (l : List ℕ). Done (form_of Start 0 l true).sign) (sym (take-length us))
      (form-ends us (length us) (record { sign = sign.Record; phase = Start; at = 0; used = 0 }) (omega arith) (omega arith))

  pub some-form : SomeForm us
  some-form = go f.sign refl told
    where
      made : (e : Ending) → unless_told f.sign f.at [] e (FormRun [] f.phase f.at (drop f.used us) e) → SomeForm us
      made e h = record { calls = all ∷ []; ending = e; run = (λ _. drop-length us, h) }

      go : (s : Sign) → f.sign ≡ s → Done s → SomeForm us
      go sign.Record w d = absurd d
      go sign.Gone w d = made clean (subst (λ (z : Sign). unless_told z f.at [] clean (FormRun [] f.phase f.at (drop f.used us) clean)) (sym w) (refl, refl))
      go sign.More w d = absurd d
      go sign.Bad w d =
          made (malformed f.at) (subst (λ (z : Sign). unless_told z f.at [] (malformed f.at) (FormRun [] f.phase f.at (drop f.used us) (malformed f.at))) (sym w) (refl, refl))

pub some-comparing : (xs ys : List ℕ) → (ls : List Line) × Comparing xs ys ls
some-comparing xs ys = go (some-form xs).ending (some-form ys).ending (some-form xs).run (some-form ys).run
  where
    go : (e d : Ending) → FormRun (some-form xs).calls Start 0 xs e → FormRun (some-form ys).calls Start 0 ys d → (ls : List Line) × Comparing xs ys ls
    go (malformed p) d h k = (FirstMalformed p ∷ [], first-malformed (some-form xs).calls p h)
    go clean (malformed p) h k = (SecondMalformed p ∷ [], second-malformed (some-form xs).calls (some-form ys).calls p h k)
    go clean clean h k =
        let x = was-clean (reading_of xs).ending (form-tells (some-form xs).calls xs clean h) in
        let y = was-clean (reading_of ys).ending (form-tells (some-form ys).calls ys clean k) in
        let r = some-run xs ys x y in
        (printed r.calls fresh_pass xs ys, side_by_side (some-form xs).calls (some-form ys).calls r.calls h k r.run)
