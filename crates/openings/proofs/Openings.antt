-- The outcomes of an opening, one law each, in the order of the tests; and what a fresh receiver is.
--   named-sums      a named start's sums, as the code makes them
--   opens-wide, opens-window, opens-start, opens-done   the four outcomes
--   opening-opens   what the function gives keeps the promise
--   opened-end      what an opening gives is shut, or told nothing
--   opening-told    an opening that is not refused gives the receiver that has been told nothing
--   opens-left      a refused one gives a closed receiver
--   shut-live, told-live   a closed receiver is not live, one that has been told something is
use mathlib.Core.Path.{◌≡◌, refl, sym, ap, ◌∙◌}
use mathlib.Core.Bool.{Bool, true, false, cond, ◌&&◌}
use mathlib.Core.List.{[]}
use mathlib.Core.Logic.{◌⊎◌, inl, inr}
use Prim.Native.Nat.{ℕ, ◌≤◌, ◌<◌}
use native.Mathlib.Omega.{arith}
use borrow.Author.Tests.{le-leb, leb-true}
use lib.Dec.{leb}
use lib.ListN.{get_or, set, length-set}
use lib.Seq.{ext_get_or}
use Rattle.std.specs.Prelude.{Result, Ok, Err, ⊤}
use Rattle.wei.proofs.Finite.{equal2}
use Rattle.points.specs.declared.Accord.{Accord}
use Rattle.points.specs.Agreed.{is_accord}
use Rattle.trellis.specs.Measure.{GoodStart, named}
use Rattle.reasons.specs.declared.Why.{Why}
use Rattle.reasons.specs.declared.Why.TheVariants.{BadWidth, BadWindow, BadStart}
use Rattle.select.specs.Select.{limit, sixteen}
use Rattle.machine.specs.Machine.{fresh_sums, opened, shut, machine_after, machine_of}
use Rattle.receiver_meaning.specs.Told.{Told, Fine}
use Rattle.reasons.specs.Reason.{Reason, given_of}
use Rattle.receiver_meaning.proofs.Telling.{unheard, fine-opened}
use Rattle.machine.proofs.Owed.{opened-told, sound-told}
use Rattle.machine.proofs.Sound.{sound-live}
use Rattle.openings.specs.declared.Start.{Start}
use Rattle.openings.specs.declared.Start.TheVariants.{Free, At}
use Rattle.openings.specs.declared.Opened.{Opened}
use Rattle.openings.specs.Given.{start_of, start_fits}
use Rattle.openings.specs.Opening.{Opening, not_opened, opening, opening_owed, Opens}

-- ---- the sums of a named start

at_each : (n i : ℕ) → n < 16 → i < 16 → get_or (set (sixteen (λ s. limit)) n 0) i 0 ≡ get_or (fresh_sums (named n)) i 0
unfolding fresh_sums
at_each = equal2 16 16 (λ n i. get_or (set (sixteen (λ s. limit)) n 0) i 0) (λ n i. get_or (fresh_sums (named n)) i 0) tt

pub named-sums : (n : ℕ) → n < 16 → set (sixteen (λ s. limit)) n 0 ≡ fresh_sums (named n)
unfolding fresh_sums
named-sums n h =
    ext_get_or 0 (set (sixteen (λ s. limit)) n 0) (fresh_sums (named n)) (length-set (sixteen (λ s. limit)) n 0)
    (λ i k. at_each n i h (rw length-set at k))

-- ---- the outcomes

module _ (ac : Accord) (w : ℕ) (b : Start) where
  opens : (r : Opened) (g : Opening) → opening ac w b ≡ g → r ≡ record { receiver = g.receiver; why = g.why } → (given_of g.why).number ≡ opening_owed ac w b →
      ((given_of g.why).number ≡ 0 → let t : Told = record { accord = ac; window = w; start = start_of b; heard = [] } in Fine t × (g.receiver ≡ machine_after t [])) → Opens ac w b r
  opens r g e i n f =
      let v : r.why ≡ g.why = ap (λ (x : Opened). x.why) i in
      let x : r.receiver ≡ g.receiver = ap (λ (x : Opened). x.receiver) i in
      let y : r.receiver ≡ (opening ac w b).receiver = x ∙ ap (λ (o : Opening). o.receiver) (sym e) in
      record {
        always-given = ap given_of v ∙ ap (λ (o : Opening). given_of o.why) (sym e);
        always-receiver = y;
        owed = ap (λ (z : Result ⊤ Why). (given_of z).number) v ∙ n;
        fresh = λ z. let k = f (sym (ap (λ (z : Result ⊤ Why). (given_of z).number) v) ∙ z) in (k.0, x ∙ k.1);
      }

  refused : (r : Opened) (v : Why) → opening ac w b ≡ not_opened v → r ≡ record { receiver = shut; why = Err v } → (given_of (Err v)).number ≡ opening_owed ac w b → ((given_of (Err v)).number ≡ 0 → ⊥) → Opens ac w b r
  refused r v e i n z = opens r (not_opened v) e i n (λ k. absurd (z k))

  pub opens-wide : (r : Opened) → is_accord ac ≡ false → r ≡ record { receiver = shut; why = Err BadWidth } → Opens ac w b r
  unfolding opening opening_owed
  opens-wide r h i = refused r BadWidth (rw h) i (rw h) (λ z. omega arith)

  pub opens-window : (r : Opened) → is_accord ac ≡ true → (leb 1 w && leb w 64) ≡ false → r ≡ record { receiver = shut; why = Err BadWindow } → Opens ac w b r
  unfolding opening opening_owed
  opens-window r h k i = refused r BadWindow (rw (h, k)) i (rw (h, k)) (λ z. omega arith)

  pub opens-start : (r : Opened) → is_accord ac ≡ true → (leb 1 w && leb w 64) ≡ true → start_fits b ≡ false → r ≡ record { receiver = shut; why = Err BadStart } → Opens ac w b r
  unfolding opening opening_owed
  opens-start r h k s i = refused r BadStart (rw (h, k, s)) i (rw (h, k, s)) (λ z. omega arith)

  start-good : (b : Start) → start_fits b ≡ true → GoodStart (start_of b)
  start-good Free e = tt
  start-good (At n) e = omega (arith, leb-true n 15 e)

  pub opens-done : (r : Opened) → is_accord ac ≡ true → 1 ≤ w → w ≤ 64 → start_fits b ≡ true → r ≡ record { receiver = opened ac w (start_of b); why = Ok tt } → Opens ac w b r
  unfolding opening opening_owed machine_after
  opens-done r h k l s i =
      opens r (record { receiver = opened ac w (start_of b); why = Ok tt }) (rw (h, le-leb 1 w k, le-leb w 64 l, s)) i
      (rw (h, le-leb 1 w k, le-leb w 64 l, s))
      (λ z. (record { agreed = h; some-window = k; small-window = l; good_start = start-good b s; each = tt }, refl))

  -- what the opening's function gives keeps the promise
  pub opening-opens : Opens ac w b (record { receiver = (opening ac w b).receiver; why = (opening ac w b).why })
  unfolding opening
  opening-opens = go (is_accord ac) (leb 1 w) (leb w 64) (start_fits b) refl refl refl refl
    where
      go : (i j k l : Bool) → is_accord ac ≡ i → leb 1 w ≡ j → leb w 64 ≡ k → start_fits b ≡ l →
          let o : Opening = cond i (cond (j && k) (cond l (record { receiver = opened ac w (start_of b); why = Ok tt }) (not_opened BadStart)) (not_opened BadWindow)) (not_opened BadWidth) in
          Opens ac w b (record { receiver = o.receiver; why = o.why })
      go false j k l e f g h = opens-wide _ e refl
      go true false k l e f g h = opens-window _ e (rw f) refl
      go true true false l e f g h = opens-window _ e (rw (f, g)) refl
      go true true true false e f g h = opens-start _ e (rw (f, g)) h refl
      go true true true true e f g h = opens-done _ e (leb-true 1 w f) (leb-true w 64 g) h refl

  -- every opening gives a closed receiver, or one that has been told nothing yet
  pub opened-end : ((opening ac w b).receiver ≡ shut) ⊎ (t : Told) × Fine t × ((opening ac w b).receiver ≡ machine_of t)
  unfolding opening machine_after
  opened-end = go (is_accord ac) (leb 1 w) (leb w 64) (start_fits b) refl refl refl refl
    where
      go : (i j k l : Bool) → is_accord ac ≡ i → leb 1 w ≡ j → leb w 64 ≡ k → start_fits b ≡ l →
          let o = cond i (cond (j && k) (cond l (record { receiver = opened ac w (start_of b); why = Ok tt }) (not_opened BadStart)) (not_opened BadWindow)) (not_opened BadWidth) in
          (o.receiver ≡ shut) ⊎ (t : Told) × Fine t × (o.receiver ≡ machine_of t)
      go false j k l e f g h = inl refl
      go true false k l e f g h = inl refl
      go true true false l e f g h = inl refl
      go true true true false e f g h = inl refl
      go true true true true e f g h = inr (unheard ac w (start_of b), fine-opened ac w (start_of b) e (leb-true 1 w f) (leb-true w 64 g) (start-good b h), sym (opened-told ac w (start_of b)))

  pub opening-told : Fine (unheard ac w (start_of b)) → (opening ac w b).receiver ≡ machine_of (unheard ac w (start_of b))
  unfolding opening machine_after
  opening-told f = rw (f.agreed, le-leb 1 w f.some-window, le-leb w 64 f.small-window, start_fits_lem b f.good_start)
    where
      start_fits_lem : (b : Start) → GoodStart (start_of b) → start_fits b ≡ true
      start_fits_lem Free g = refl
      start_fits_lem (At n) g = le-leb n 15 (omega arith)

  pub opens-left : (r : Opened) → Opens ac w b r → ((given_of r.why).number ≡ 0 → ⊥) → r.receiver ≡ shut
  unfolding opening
  opens-left r p z = p.always-receiver ∙ go (is_accord ac) (leb 1 w && leb w 64) (start_fits b) (λ e. z (ap (λ (g : Reason). g.number) p.always-given ∙ e))
    where
      go : (i j k : Bool) →
          let g : Opening = cond i (cond j (cond k (record { receiver = opened ac w (start_of b); why = Ok tt }) (not_opened BadStart)) (not_opened BadWindow)) (not_opened BadWidth) in
          ((given_of g.why).number ≡ 0 → ⊥) → g.receiver ≡ shut
      go false j k n = refl
      go true false k n = refl
      go true true false n = refl
      go true true true n = absurd (n refl)

pub shut-live : shut.live ≡ false
unfolding shut
shut-live = refl

pub told-live : (t : Told) → Fine t → (machine_of t).live ≡ true
told-live t f = sound-live (machine_of t) (sound-told t f)
