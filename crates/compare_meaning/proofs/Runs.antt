-- Two well-formed captures have a run that comes to its last line: the theorem on runs speaks of all of them.
--   Rest r xs ys      what is not passed yet ends cleanly in both
--   Lives e p r ..    a call that was lent all there is passes something and leaves such a rest, or has come to the last line
--   pair-lives, pass-lives   a pair of records; a call of `next`
--   some-run          THE THEOREM: calls that are lent all there is, as many as are needed
use mathlib.Core.Path.{◌≡◌, refl, sym, ap, subst, ◌∙◌}
use mathlib.Core.Bool.{Bool, true, false, cond}
use mathlib.Core.List.{List, [], ◌∷◌, ◌++◌, append-nil}
use Prim.Native.Nat.{ℕ, zero, suc, ◌+◌, ◌≤◌, ◌<◌}
use native.Mathlib.Omega.{arith}
use lib.Dec.{leb}
use lib.ListN.{length, take, drop, length-drop}
use lib.Seq.{drop-drop, drop-length, take-length}
use Rattle.records.specs.declared.Phase.{Phase}
use Rattle.record_front.specs.declared.Sign.{Sign}
use Rattle.record_front.specs.declared.Sign.TheVariants as sign
use Rattle.record_front.specs.declared.Front.{Front}
use Rattle.records.specs.Kinds.{kind_of, may_stand, begins}
use Rattle.records.specs.Reading.{clean, malformed, Reading, reading_of}
use Rattle.records.specs.Values.{body_fits}
use Rattle.record_front.specs.Fronts.{front_of}
use Rattle.record_front.proofs.Fronts.{standing, rest_of, rest-whole, Taken, Ended, Says, look-passes, front-within}
use Rattle.compare_events.specs.declared.Line.{Line}
use Rattle.compare_events.specs.declared.Line.TheVariants.{Differs, OnlyFirst, OnlySecond}
use Rattle.compare_events.specs.declared.Event.{Event}
use Rattle.compare_events.specs.declared.Event.TheVariants.{Same, Said, Last, Wait, Broken}
use Rattle.compare.specs.declared.Pass.{Pass}
use Rattle.compare_events.specs.Events.{judge}
use Rattle.compare.specs.Passing.{is_same, moved, moved_by, first_front, second_front, pair_step, pass_from, anew, pass_of, fresh_pass}
use Rattle.compare_meaning.proofs.Meaning.{nothing-passed, untrue, Call, called, Honest, unless_last, Run}

not-clean : (at : ℕ) → malformed at ≡ clean → ⊥
not-clean at e = let z : ◌≡◌ {A = ℕ} 0 1 = cc in omega arith

-- where the capture has no more bytes, no more are wanted
abbrev pub Told : Sign → Type 0
Told sign.Record = Unit {0}
Told sign.Gone = Unit {0}
Told sign.More = ⊥
Told sign.Bad = Unit {0}

pub all_told : (p : Phase) (bs : List ℕ) → Told (front_of p bs true).sign
unfolding front_of
all_told p [] = go (begins p)
  where
    go : (b : Bool) → Told (cond b sign.Gone sign.Bad)
    go true = tt
    go false = tt
all_told p (k ∷ bs) = go (may_stand p (kind_of k).role) (leb (kind_of k).size (length bs)) (body_fits k (take (kind_of k).size bs))
  where
    go : (b t u : Bool) → Told (standing p k true b t u).sign
    go false t u = tt
    go true true true = tt
    go true true false = tt
    go true false u = tt

pub record Rest (r : Pass) (xs ys : List ℕ) : Type 0 where
  pub from : ℕ
  pub till : ℕ
  pub first : (rest_of r.first from (drop r.here xs ++ [])).ending ≡ clean
  pub second : (rest_of r.second till (drop r.there ys ++ [])).ending ≡ clean
  pub here : r.here ≤ length xs
  pub there : r.there ≤ length ys

pub record Further (p r : Pass) (xs ys : List ℕ) : Type 0 where
  pub rest : Rest r xs ys
  pub more : p.here + p.there < r.here + r.there

abbrev pub Lives : Event → Pass → Pass → List ℕ → List ℕ → Type 0
Lives Same p r xs ys = Further p r xs ys
Lives (Said l) p r xs ys = Further p r xs ys
Lives (Last l) p r xs ys = Unit {0}
Lives Wait p r xs ys = ⊥
Lives Broken p r xs ys = ⊥

module _ (xs ys : List ℕ) (p : Pass) (q : Rest p xs ys) (A B : Front) (hx : p.here + A.length ≤ length xs) (hy : p.there + B.length ≤ length ys) where
  abbrev us : List ℕ
  us = drop p.here xs

  abbrev vs : List ℕ
  vs = drop p.there ys

  abbrev a : ℕ
  a = q.from

  abbrev b : ℕ
  b = q.till

  first-after : Taken p.first a us [] A → (rest_of A.phase (a + A.length) (drop (p.here + A.length) xs ++ [])).ending ≡ clean
  first-after t = ap (λ (l : List ℕ). (rest_of A.phase (a + A.length) (l ++ [])).ending) (sym (drop-drop A.length p.here xs)) ∙ ap (λ (z : Reading). z.ending) (sym t.rest) ∙ q.first

  second-after : Taken p.second b vs [] B → (rest_of B.phase (b + B.length) (drop (p.there + B.length) ys ++ [])).ending ≡ clean
  second-after t = ap (λ (l : List ℕ). (rest_of B.phase (b + B.length) (l ++ [])).ending) (sym (drop-drop B.length p.there ys)) ∙ ap (λ (z : Reading). z.ending) (sym t.rest) ∙ q.second

  first-same : Ended p.first a us [] A clean → (rest_of A.phase (a + A.length) (drop (p.here + A.length) xs ++ [])).ending ≡ clean
  first-same t = ap (λ (z : Reading). z.ending) (nothing-passed _ _ _ _ _ xs [] t.stays.length t.stays.phase) ∙ q.first

  second-same : Ended p.second b vs [] B clean → (rest_of B.phase (b + B.length) (drop (p.there + B.length) ys ++ [])).ending ≡ clean
  second-same t = ap (λ (z : Reading). z.ending) (nothing-passed _ _ _ _ _ ys [] t.stays.length t.stays.phase) ∙ q.second

  goes : (e : Event) → (rest_of A.phase (a + A.length) (drop (p.here + A.length) xs ++ [])).ending ≡ clean → (rest_of
      B.phase (b + B.length) (drop (p.there + B.length) ys ++ [])).ending ≡ clean
      → p.here + p.there < p.here + A.length + (p.there + B.length) → Further p (moved p e A B) xs ys
  goes e f s h = record { rest = record { from = a + A.length; till = b + B.length; first = f; second = s; here = hx; there = hy }; more = h }

  first-broken : Ended p.first a us [] A (malformed a) → ⊥
  first-broken t = not-clean a (sym (ap (λ (z : Reading). z.ending) t.rest) ∙ q.first)

  second-broken : Ended p.second b vs [] B (malformed b) → ⊥
  second-broken t = not-clean b (sym (ap (λ (z : Reading). z.ending) t.rest) ∙ q.second)

  abbrev G : Event → Type 0
  G e = Lives (moved_by p e A B).event p (moved_by p e A B) xs ys

  two_records : (w : Bool) (l : Line) → Taken p.first a us [] A → Taken p.second b vs [] B → G (cond w Same (Said l))
  two_records true l s t = goes Same (first-after s) (second-after t) (omega (arith, s.some))
  two_records false l s t = goes (Said l) (first-after s) (second-after t) (omega (arith, s.some))

  fronts-live : (w : Bool) (n k : ℕ) (s : Sign) → Told s → Says s p.first a us [] A → (t : Sign) → Told t → Says t p.second b vs [] B → G (judge s t w n k)
  fronts-live w n k sign.Record x s sign.Record y t = two_records w (Differs n) s t
  fronts-live w n k sign.Record x s sign.Gone y t = goes (Said (OnlyFirst n)) (first-after s) (second-same t) (omega (arith, s.some))
  fronts-live w n k sign.Record x s sign.More y t = absurd y
  fronts-live w n k sign.Record x s sign.Bad y t = absurd (second-broken t)
  fronts-live w n k sign.Gone x s sign.Record y t = goes (Said (OnlySecond n)) (first-same s) (second-after t) (omega (arith, t.some))
  fronts-live w n k sign.Gone x s sign.Gone y t = tt
  fronts-live w n k sign.Gone x s sign.More y t = absurd y
  fronts-live w n k sign.Gone x s sign.Bad y t = absurd (second-broken t)
  fronts-live w n k sign.More x s t y u = absurd x
  fronts-live w n k sign.Bad x s t y u = absurd (first-broken s)

module _ (xs ys : List ℕ) where
  pair-lives : (p : Pass) → Rest p xs ys → Lives (pair_step p xs ys true true).event p (pair_step p xs ys true true) xs ys
  unfolding pair_step
  pair-lives p q =
      let u = drop p.here xs in
      let v = drop p.there ys in
      fronts-live xs ys p q (first_front p xs true) (second_front p ys true)
      (omega (arith, front-within p.first u true, length-drop p.here xs, q.here))
      (omega (arith, front-within p.second v true, length-drop p.there ys, q.there))
      _ p.number p.lines
      (first_front p xs true).sign (all_told p.first u) (look-passes p.first q.from u true [] (λ _. refl))
      (second_front p ys true).sign (all_told p.second v) (look-passes p.second q.till v true [] (λ _. refl))

  -- further from where one was, if it is further from a later place
  lives-from : (e : Event) (p r s : Pass) → Further p r xs ys → Lives e r s xs ys → Lives e p s xs ys
  lives-from Same p r s f l = record { rest = l.rest; more = omega (arith, f.more, l.more) }
  lives-from (Said x) p r s f l = record { rest = l.rest; more = omega (arith, f.more, l.more) }
  lives-from (Last x) p r s f l = tt
  lives-from Wait p r s f l = l
  lives-from Broken p r s f l = l

  same-further : (e : Event) (p r : Pass) → is_same e ≡ true → Lives e p r xs ys → Further p r xs ys
  same-further Same p r h l = l
  same-further (Said x) p r h l = l
  same-further (Last x) p r h l = absurd (untrue h)
  same-further Wait p r h l = absurd l
  same-further Broken p r h l = absurd l

  pass-lives : (j : ℕ) (p : Pass) → Rest p xs ys → Lives (pass_from j p xs ys true true).event p (pass_from j p xs ys true true) xs ys
  pass-lives zero p q = pair-lives p q
  pass-lives (suc j) p q = go (pair-lives p q) (λ z. pass-lives j (pair_step p xs ys true true) z) (is_same (pair_step p xs ys true true).event) refl
    where
      r : Pass
      r = pair_step p xs ys true true

      go : Lives r.event p r xs ys → (Rest r xs ys → Lives (pass_from j r xs ys true true).event r (pass_from j r xs ys true true) xs ys) → (w : Bool) → is_same r.event ≡ w
          → Lives (cond w (pass_from j r xs ys true true) r).event p (cond w (pass_from j r xs ys true true) r) xs ys
      go l ih true h = let f = same-further r.event p r h l in lives-from (pass_from j r xs ys true true).event p r (pass_from j r xs ys true true) f (ih f.rest)
      go l ih false h = l

-- ---- calls that are lent all there is

pub record SomeRun (p : Pass) (us vs : List ℕ) : Type 0 where
  pub calls : List Call
  pub run : Run calls p us vs

abbrev all : List ℕ → List ℕ → Call
all us vs = record { first = length us; second = length vs; ends = true; closes = true }

module _ (p : Pass) (us vs : List ℕ) where
  abbrev c : Call
  c = all us vs

  abbrev r : Pass
  r = called c p us vs

  honest : Honest c us vs
  honest = record { ends = λ _. drop-length us; closes = λ _. drop-length vs }

  whole-lives : (a b : ℕ) → (rest_of p.first a us).ending ≡ clean → (rest_of p.second b vs).ending ≡ clean → Lives r.event (anew p) r us vs
  whole-lives a b f s =
      subst (λ (l : List ℕ). Lives (pass_of p l (take (length vs) vs) true true).event (anew p) (pass_of p l (take (length vs) vs) true true) us vs) (sym (take-length us))
      (subst (λ (l : List ℕ). Lives (pass_of p us l true true).event (anew p) (pass_of p us l true true) us vs) (sym (take-length vs))
      (pass-lives us vs (length us) (anew p)
      (record {
        from = a;
        till = b;
        here = omega arith;
        there = omega arith;
        first = ap (λ (l : List ℕ). (rest_of p.first a l).ending) (append-nil us) ∙ f;
        second = ap (λ (l : List ℕ). (rest_of p.second b l).ending) (append-nil vs) ∙ s;
      })))

  abbrev Later : ℕ → Type 0
  Later n = (a b : ℕ) → (rest_of r.first a (drop r.here us)).ending ≡ clean → (rest_of r.second b (drop r.there vs)).ending ≡ clean → length
      (drop r.here us) + length (drop r.there vs) < n → SomeRun r (drop r.here us) (drop r.there vs)

  onward : (n : ℕ) (v : Event) → r.event ≡ v → ((cs : List Call) (t : Type 0) → t → unless_last v cs t) → length us + length vs < suc n → Further (anew p) r us vs → Later n → SomeRun p us vs
  onward n v w u h f ih =
      let q = f.rest in
      let s =
      ih q.from q.till
      (ap (λ (l : List ℕ). (rest_of r.first q.from l).ending) (sym (append-nil (drop r.here us))) ∙ q.first)
      (ap (λ (l : List ℕ). (rest_of r.second q.till l).ending) (sym (append-nil (drop r.there vs))) ∙ q.second)
      (omega (arith, length-drop r.here us, length-drop r.there vs, q.here, q.there, f.more)) in
      record { calls = c ∷ s.calls; run = (honest, subst (λ (z : Event). unless_last z s.calls (Run s.calls r (drop r.here us) (drop r.there vs))) (sym w) (u s.calls _ s.run)) }

  runs_on : (n : ℕ) → length us + length vs < suc n → Later n → (v : Event) → r.event ≡ v → Lives v (anew p) r us vs → SomeRun p us vs
  runs_on n h ih Same w l = onward n Same w (λ cs t z. z) h l ih
  runs_on n h ih (Said x) w l = onward n (Said x) w (λ cs t z. z) h l ih
  runs_on n h ih (Last x) w l = record { calls = c ∷ []; run = (honest, subst (λ (z : Event). unless_last z [] (Run [] r (drop r.here us) (drop r.there vs))) (sym w) refl) }
  runs_on n h ih Wait w l = absurd l
  runs_on n h ih Broken w l = absurd l

run-from : (n : ℕ) (p : Pass) (us vs : List ℕ) (a b : ℕ) → (rest_of p.first a us).ending ≡ clean → (rest_of p.second b vs).ending ≡ clean → length us + length vs < n → SomeRun p us vs
run-from zero p us vs a b f s h = absurd (omega arith)
run-from (suc n) p us vs a b f s h = runs_on p us vs n h (λ x y i j k. run-from n _ _ _ x y i j k) (called (all us vs) p us vs).event refl (whole-lives p us vs a b f s)

pub some-run : (xs ys : List ℕ) → (reading_of xs).ending ≡ clean → (reading_of ys).ending ≡ clean → SomeRun fresh_pass xs ys
some-run xs ys ex ey = run-from (suc (length xs + length ys)) fresh_pass xs ys 0 0 (ap (λ (q : Reading). q.ending) (rest-whole xs) ∙ ex)
    (ap (λ (q : Reading). q.ending) (rest-whole ys) ∙ ey) (omega arith)
