-- The first reading: whatever lumps the bytes come in, calls of `form` that have come to an end say how the capture ends.
--   FormPassed ..       one call: how far it came, and what is still to be read
--   step-formed, form-formed   one look; a call of `form`
--   FormCall, FormRun   some calls one after the other, up to the capture's end or its malformed place
--   form-tells          THE THEOREM
use mathlib.Core.Path.{◌≡◌, refl, sym, ap, subst, ◌∙◌}
use mathlib.Core.Bool.{Bool, true, false, cond}
use mathlib.Core.List.{List, [], ◌∷◌, ◌++◌}
use Prim.Native.Nat.{ℕ, zero, suc, ◌+◌, ◌≤◌}
use native.Mathlib.Omega.{arith}
use lib.ListN.{length, take, drop, length-drop, take-append-drop}
use lib.Seq.{drop-drop}
use Rattle.records.specs.declared.Phase.{Phase}
use Rattle.records.specs.declared.Phase.TheVariants.{Start}
use Rattle.record_front.specs.declared.Sign.{Sign}
use Rattle.record_front.specs.declared.Sign.TheVariants as sign
use Rattle.record_front.specs.declared.Front.{Front}
use Rattle.records.specs.Reading.{Ending, clean, malformed, Reading, reading_of}
use Rattle.records.specs.Frames.{capped, capped_ending}
use Rattle.record_front.specs.Fronts.{front_of}
use Rattle.records.proofs.Counts.{capped-more}
use Rattle.record_front.proofs.Fronts.{rest_of, rest-whole, Says, look-passes, front-within}
use Rattle.compare.specs.declared.Formed.{Formed}
use Rattle.compare.specs.Passing.{is_record, form_step, form_from, form_of}
use Rattle.compare_meaning.proofs.Meaning.{split, none-capped}

-- a sign that ends the reading tells the ending
abbrev pub Tells : Sign → ℕ → Ending → Type 0
Tells sign.Record at e = Unit {0}
Tells sign.Gone at e = e ≡ clean
Tells sign.More at e = Unit {0}
Tells sign.Bad at e = e ≡ malformed at

abbrev pub ending_at : Phase → ℕ → List ℕ → Ending
ending_at p at us = (rest_of p at us).ending

pub record FormPassed (n : ℕ) (f : Formed) (bs more : List ℕ) (g : Formed) : Type 0 where
  pub now : ℕ
  pub at : g.at ≡ capped now
  pub rest : ending_at f.phase n (drop f.used bs ++ more) ≡ ending_at g.phase now (drop g.used bs ++ more)
  pub tells : Tells g.sign now (ending_at f.phase n (drop f.used bs ++ more))
  pub used : g.used ≤ length bs

module _ (n : ℕ) (f : Formed) (bs more : List ℕ) (w : Front) (en : f.at ≡ capped n) (fits : f.used + w.length ≤ length bs) where
  abbrev us : List ℕ
  us = drop f.used bs

  -- the reading goes on after the front
  abbrev Goes : Type 0
  Goes = ending_at f.phase n (us ++ more) ≡ ending_at w.phase (n + w.length) (drop w.length us ++ more)

  formed : (s : Sign) → Goes → Tells s (n + w.length) (ending_at f.phase n (us ++ more)) → FormPassed n f bs more
      (record { sign = s; phase = w.phase; at = capped (f.at + w.length); used = f.used + w.length })
  formed s r t =
      record {
        now = n + w.length;
        at = ap (λ (z : ℕ). capped (z + w.length)) en ∙ capped-more n w.length;
        rest = r ∙ ap (λ (l : List ℕ). ending_at w.phase (n + w.length) (l ++ more)) (drop-drop w.length f.used bs);
        tells = t;
        used = fits;
      }

  stopped : w.length ≡ 0 → w.phase ≡ f.phase → (s : Sign) → Tells s n (ending_at f.phase n (us ++ more)) → FormPassed n f bs more
      (record { sign = s; phase = w.phase; at = capped (f.at + w.length); used = f.used + w.length })
  stopped z q s t =
      let e : n ≡ n + w.length = omega arith in
      let r : Goes = ap (λ (x : ℕ). ending_at f.phase x (us ++ more)) e ∙ ap (λ (x : Phase). ending_at x (n + w.length) (us ++ more)) (sym q)
      ∙ ap (λ (x : ℕ). ending_at w.phase (n + w.length) (drop x us ++ more)) (sym z) in
      formed s r (subst (λ (x : ℕ). Tells s x (ending_at f.phase n (us ++ more))) e t)

  -- a front, by its sign
  front-formed : (s : Sign) → Says s f.phase n us more w → FormPassed n f bs more (record { sign = s; phase = w.phase; at = capped (f.at + w.length); used = f.used + w.length })
  front-formed sign.Record t = formed sign.Record (ap (λ (q : Reading). q.ending) t.rest) tt
  front-formed sign.Gone t = stopped t.stays.length t.stays.phase sign.Gone (ap (λ (q : Reading). q.ending) t.rest)
  front-formed sign.More t = stopped t.length t.phase sign.More tt
  front-formed sign.Bad t = stopped t.stays.length t.stays.phase sign.Bad (ap (λ (q : Reading). q.ending) t.rest)

module _ (bs more : List ℕ) (ends : Bool) (he : ends ≡ true → more ≡ []) where
  step-formed : (n : ℕ) (f : Formed) → f.at ≡ capped n → f.used ≤ length bs → FormPassed n f bs more (form_step f bs ends)
  unfolding form_step
  step-formed n f en hu =
      let w = front_of f.phase (drop f.used bs) ends in
      front-formed n f bs more w en (omega (arith, front-within f.phase (drop f.used bs) ends, length-drop f.used bs)) w.sign (look-passes f.phase n (drop f.used bs) ends more he)

  abbrev Goal : ℕ → ℕ → Formed → Type 0
  Goal j n f = f.at ≡ capped n → f.used ≤ length bs → FormPassed n f bs more (form_from j f bs ends)

  onward : (j n : ℕ) (f g : Formed) (q : FormPassed n f bs more g) → Goal j q.now g → FormPassed n f bs more (form_from j g bs ends)
  onward j n f g q ih =
      let s = ih q.at q.used in
      record { now = s.now; at = s.at; rest = q.rest ∙ s.rest; tells = subst (λ (e : Ending). Tells (form_from j g bs ends).sign s.now e) (sym q.rest) s.tells; used = s.used }

  form-formed : (j n : ℕ) (f : Formed) → Goal j n f
  form-formed zero n f en hu = step-formed n f en hu
  form-formed (suc j) n f en hu = go (step-formed n f en hu) (λ m. form-formed j m (form_step f bs ends)) (is_record (form_step f bs ends).sign)
    where
      g : Formed
      g = form_step f bs ends

      go : FormPassed n f bs more g → ((m : ℕ) → Goal j m g) → (b : Bool) → FormPassed n f bs more (cond b (form_from j g bs ends) g)
      go q ih true = onward j n f g q (ih q.now)
      go q ih false = q

-- ---- calls one after the other

-- how many of the bytes that are not passed yet are lent, and whether the caller says that there are no more
pub record FormCall : Type 0 where
  pub lent : ℕ
  pub ends : Bool

abbrev pub formed-by : FormCall → Phase → ℕ → List ℕ → Formed
formed-by c p at us = form_of p at (take c.lent us) c.ends

-- how some calls end, if they do: after the capture's end or its malformed place nothing more is asked
abbrev pub unless_told : Sign → ℕ → List FormCall → Ending → Type 0 → Type 0
unless_told sign.Record at cs e t = t
unless_told sign.Gone at cs e t = (cs ≡ []) × (e ≡ clean)
unless_told sign.More at cs e t = t
unless_told sign.Bad at cs e t = (cs ≡ []) × (e ≡ malformed at)

abbrev pub FormRun : List FormCall → Phase → ℕ → List ℕ → Ending → Type 0
FormRun [] p at us e = ⊥
FormRun (c ∷ cs) p at us e =
    (c.ends ≡ true → drop c.lent us ≡ [])
    × unless_told (formed-by c p at us).sign (formed-by c p at us).at cs e (FormRun cs (formed-by c p at us).phase (formed-by c p at us).at (drop (formed-by c p at us).used us) e)

module _ (c : FormCall) (cs : List FormCall) (p : Phase) (at n : ℕ) (us : List ℕ) (e : Ending) (en : at ≡ capped n) (he : c.ends ≡ true → drop c.lent us ≡ []) where
  abbrev f : Formed
  f = formed-by c p at us

  abbrev Told : Type 0
  Told = e ≡ capped_ending (ending_at p n us)

  abbrev Later : Type 0
  Later = (m : ℕ) → f.at ≡ capped m → FormRun cs f.phase f.at (drop f.used us) e → e ≡ capped_ending (ending_at f.phase m (drop f.used us))

  call-tells : Later → (s : Sign) → f.sign ≡ s → unless_told s f.at cs e (FormRun cs f.phase f.at (drop f.used us) e) → Told
  call-tells ih s w h = go s w h
    where
      q : FormPassed n (record { sign = sign.Record; phase = p; at = at; used = 0 }) (take c.lent us) (drop c.lent us) f
      q = form-formed (take c.lent us) (drop c.lent us) c.ends he (length (take c.lent us)) n _ en (omega arith)

      all : ending_at p n (take c.lent us ++ drop c.lent us) ≡ ending_at p n us
      all = ap (λ (l : List ℕ). ending_at p n l) (take-append-drop c.lent us)

      later : FormRun cs f.phase f.at (drop f.used us) e → Told
      later h =
          ih q.now q.at h ∙ ap (λ (l : List ℕ). capped_ending (ending_at f.phase q.now l)) (sym (split f.used c.lent us q.used))
          ∙ ap capped_ending (sym q.rest ∙ all)

      go : (s : Sign) → f.sign ≡ s → unless_told s f.at cs e (FormRun cs f.phase f.at (drop f.used us) e) → Told
      go sign.Record w h = later h
      go sign.Gone w h = h.1 ∙ ap capped_ending (sym (subst (λ (z : Sign). Tells z q.now (ending_at p n (take c.lent us ++ drop c.lent us))) w q.tells) ∙ all)
      go sign.More w h = later h
      go sign.Bad w h = h.1 ∙ ap malformed q.at ∙ ap capped_ending (sym (subst (λ (z : Sign). Tells z q.now (ending_at p n (take c.lent us ++ drop c.lent us))) w q.tells) ∙ all)

run-tells : (cs : List FormCall) (p : Phase) (at n : ℕ) (us : List ℕ) (e : Ending) → at ≡ capped n → FormRun cs p at us e → e ≡ capped_ending (ending_at p n us)
run-tells [] p at n us e en h = absurd h
run-tells (c ∷ cs) p at n us e en h =
    call-tells c cs p at n us e en h.0 (λ m x y. run-tells cs (formed-by c p at us).phase (formed-by c p at us).at m (drop (formed-by c p at us).used us) e x y)
    (formed-by c p at us).sign refl h.1

-- calls over a capture that have come to an end say how it ends
pub form-tells : (cs : List FormCall) (us : List ℕ) (e : Ending) → FormRun cs Start 0 us e → e ≡ capped_ending (reading_of us).ending
form-tells cs us e h = run-tells cs Start 0 0 us e none-capped h ∙ ap (λ (q : Reading). capped_ending q.ending) (rest-whole us)
