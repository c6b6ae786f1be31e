-- What the code tells is the comparison: whatever lumps the bytes come in, a run that has come to its last line has printed the lines of
-- 02, Wish 12.
--   todo n p a b us vs    the lines about what is still to be read, us and vs being the bytes that are not passed yet
--   said e                the line that a call gave
--   Passed ..             one call: its line, and then what is still to come
--   pair-passed, pass-passed   a pair of records; a call of `next`
--   Call, Run, printed    some calls one after the other, up to the last line, and what they gave
--   run-prints            THE THEOREM
use mathlib.Core.Path.{◌≡◌, refl, sym, ap, subst, ◌∙◌}
use mathlib.Core.Bool.{Bool, true, false, cond}
use mathlib.Core.List.{List, [], ◌∷◌, ◌++◌, map, map-append, append_assoc}
use Prim.Native.Nat.{ℕ, zero, suc, ◌+◌, ◌≤◌}
use native.Mathlib.Omega.{arith}
use lib.ListN.{length, take, drop, length-append, length-drop, take-append-drop}
use lib.Seq.{drop-drop, drop-append-le}
use Rattle.text.specs.Token.{same_bytes}
use Rattle.records.specs.declared.Phase.{Phase}
use Rattle.records.specs.declared.Phase.TheVariants.{Start}
use Rattle.record_front.specs.declared.Sign.{Sign}
use Rattle.record_front.specs.declared.Sign.TheVariants as sign
use Rattle.record_front.specs.declared.Front.{Front}
use Rattle.records.specs.Values.{Entry}
use Rattle.records.specs.Reading.{clean, Reading, reading_of}
use Rattle.records.specs.Frames.{capped}
use Rattle.records.proofs.Counts.{capped-more}
use Rattle.record_front.proofs.Fronts.{rest_of, rest-whole, Taken, Ended, Says, look-passes, front-within}
use Rattle.compare_events.specs.declared.Line.{Line}
use Rattle.compare_events.specs.declared.Line.TheVariants.{Differs, OnlyFirst, OnlySecond, Differences}
use Rattle.compare_events.specs.declared.Event.{Event}
use Rattle.compare_events.specs.declared.Event.TheVariants.{Same, Said, Last, Wait, Broken}
use Rattle.compare.specs.declared.Pass.{Pass}
use Rattle.compare.specs.Differences.{same, differences_from, comparison_of, compared_of, capped_line}
use Rattle.compare_events.specs.Events.{judge}
use Rattle.compare.specs.Passing.{is_same, moved, halted, first_front, second_front, moved_by, pair_step, pass_from, anew, pass_of, fresh_pass}

abbrev pub todo : ℕ → Pass → ℕ → ℕ → List ℕ → List ℕ → List Line
todo n p a b us vs = differences_from n (rest_of p.first a us).records (rest_of p.second b vs).records

abbrev pub said : Event → List Line
said Same = []
said (Said l) = l ∷ []
said (Last l) = []
said Wait = []
said Broken = []

-- the last line comes where nothing is left, and counts the lines
abbrev pub Over : Event → Pass → List Line → Type 0
Over Same r ls = Unit {0}
Over (Said l) r ls = Unit {0}
Over (Last l) r ls = (ls ≡ []) × (l ≡ Differences r.lines)
Over Wait r ls = Unit {0}
Over Broken r ls = Unit {0}

pub record Passed (n k : ℕ) (p : Pass) (a b : ℕ) (xs ys more further : List ℕ) (r : Pass) : Type 0 where
  pub now : ℕ
  pub first : ℕ
  pub second : ℕ
  pub lines : List Line
  pub told : map capped_line lines ≡ said r.event
  pub rest : todo n p a b (drop p.here xs ++ more) (drop p.there ys ++ further) ≡ lines ++ todo now r first second (drop r.here xs ++ more) (drop r.there ys ++ further)
  pub number : r.number ≡ capped now
  pub count : r.lines ≡ capped (k + length lines)
  pub over : Over r.event r (todo now r first second (drop r.here xs ++ more) (drop r.there ys ++ further))
  pub here : r.here ≤ length xs
  pub there : r.there ≤ length ys

pub untrue : false ≡ true → ⊥
untrue e = let z : ◌≡◌ {A = ℕ} 0 1 = cc in omega arith

cons-nil : {l : Line} {ls : List Line} → l ∷ ls ≡ [] → ⊥
cons-nil {l} {ls} e = let z : suc (length ls) ≡ 0 = ap (λ (x : List Line). length x) e in omega arith

plus-zero : (k : ℕ) → capped k ≡ capped (k + 0)
plus-zero k = let e : k ≡ k + 0 = omega arith in ap capped e

capped-next : (n m : ℕ) → m ≡ capped n → capped (m + 1) ≡ capped (n + 1)
capped-next n m e = ap (λ (z : ℕ). capped (z + 1)) e ∙ capped-more n 1

pub nothing-passed : (q p : Phase) (at here m : ℕ) (xs more : List ℕ) → m ≡ 0 → q ≡ p → rest_of q (at + m) (drop (here + m) xs ++ more) ≡ rest_of p at (drop here xs ++ more)
nothing-passed q p at here m xs more e f =
    let z : at + m ≡ at = omega arith in
    let y : here + m ≡ here = omega arith in
    ap (λ (x : Phase). rest_of x (at + m) (drop (here + m) xs ++ more)) f ∙ ap (λ (x : ℕ). rest_of p x (drop (here + m) xs ++ more)) z ∙ ap (λ (x : ℕ). rest_of p at (drop x xs ++ more)) y

is_same-said : (e : Event) → is_same e ≡ true → said e ≡ []
is_same-said Same h = refl
is_same-said (Said l) h = absurd (untrue h)
is_same-said (Last l) h = absurd (untrue h)
is_same-said Wait h = absurd (untrue h)
is_same-said Broken h = absurd (untrue h)

no_lines : (ls : List Line) → map capped_line ls ≡ [] → ls ≡ []
no_lines [] h = refl
no_lines (l ∷ ls) h = absurd (cons-nil h)

-- one pair of records
module _ (n k : ℕ) (p : Pass) (a b : ℕ) (xs ys more further : List ℕ) (A B : Front) (en : p.number ≡ capped n) (ek : p.lines ≡ capped k)
    (hx : p.here + A.length ≤ length xs) (hy : p.there + B.length ≤ length ys) where
  abbrev us : List ℕ
  us = drop p.here xs

  abbrev vs : List ℕ
  vs = drop p.there ys

  abbrev G : Pass → Type 0
  G r = Passed n k p a b xs ys more further r

  stays : (e : Event) → said e ≡ [] → Over e (halted p e) (todo n p a b (us ++ more) (vs ++ further)) → G (halted p e)
  stays e q o =
      record { now = n; first = a; second = b; lines = []; told = sym q; rest = refl; number = en; count = ek ∙ plus-zero k; over = o; here = omega arith; there = omega arith }

  -- the lists of records after the fronts
  abbrev first_rest : List Entry
  first_rest = (rest_of A.phase (a + A.length) (drop (p.here + A.length) xs ++ more)).records

  abbrev second_rest : List Entry
  second_rest = (rest_of B.phase (b + B.length) (drop (p.there + B.length) ys ++ further)).records

  goes : (e : Event) (ls : List Line) → map capped_line ls ≡ said e → (moved p e A B).lines ≡ capped (k + length ls) → Over e (moved p e A B) (differences_from (n + 1) first_rest second_rest)
      → todo n p a b (us ++ more) (vs ++ further) ≡ ls ++ differences_from (n + 1) first_rest second_rest → G (moved p e A B)
  goes e ls q c o r =
      record { now = n + 1; first = a + A.length; second = b + B.length; lines = ls; told = q; rest = r; number = capped-next n p.number en; count = c; over = o; here = hx; there = hy }

  first_taken : (t : Taken p.first a us more A) → (rest_of p.first a (us ++ more)).records ≡ t.entry ∷ first_rest
  first_taken t = ap (λ (q : Reading). q.records) t.rest ∙ ap (λ (l : List ℕ). t.entry ∷ (rest_of A.phase (a + A.length) (l ++ more)).records) (drop-drop A.length p.here xs)

  second-taken : (t : Taken p.second b vs further B) → (rest_of p.second b (vs ++ further)).records ≡ t.entry ∷ second_rest
  second-taken t = ap (λ (q : Reading). q.records) t.rest ∙ ap (λ (l : List ℕ). t.entry ∷ (rest_of B.phase (b + B.length) (l ++ further)).records) (drop-drop B.length p.there ys)

  first_ended : Ended p.first a us more A clean → ((rest_of p.first a (us ++ more)).records ≡ []) × (first_rest ≡ [])
  first_ended t =
      let e : (rest_of p.first a (us ++ more)).records ≡ [] = ap (λ (q : Reading). q.records) t.rest in
      (e, ap (λ (q : Reading). q.records) (nothing-passed _ _ _ _ _ xs more t.stays.length t.stays.phase) ∙ e)

  second_ended : Ended p.second b vs further B clean → ((rest_of p.second b (vs ++ further)).records ≡ []) × (second_rest ≡ [])
  second_ended t =
      let e : (rest_of p.second b (vs ++ further)).records ≡ [] = ap (λ (q : Reading). q.records) t.rest in
      (e, ap (λ (q : Reading). q.records) (nothing-passed _ _ _ _ _ ys further t.stays.length t.stays.phase) ∙ e)

  -- a line more
  line-count : capped (p.lines + 1) ≡ capped (k + 1)
  line-count = capped-next k p.lines ek

  -- both have a record here
  both : (w : Bool) → w ≡ same_bytes (take A.length us) (take B.length vs) → Taken p.first a us more A → Taken
      p.second b vs further B → G (moved_by p (cond w Same (Said (Differs p.number))) A B)
  unfolding differences_from
  both w e s t = go w (e ∙ alike)
    where
      alike : same_bytes (take A.length us) (take B.length vs) ≡ same s.entry t.entry
      alike = rw (s.bytes, t.bytes)

      go : (w : Bool) → w ≡ same s.entry t.entry → G (moved_by p (cond w Same (Said (Differs p.number))) A B)
      go true e = goes Same [] refl (ek ∙ plus-zero k) tt (rw (first_taken s, second-taken t, sym e))
      go false e = goes (Said (Differs p.number)) (Differs n ∷ []) (rw en) line-count tt (rw (first_taken s, second-taken t, sym e))

  only-first : Taken p.first a us more A → Ended p.second b vs further B clean → G (moved p (Said (OnlyFirst p.number)) A B)
  unfolding differences_from
  only-first s t = goes (Said (OnlyFirst p.number)) (OnlyFirst n ∷ []) (rw en) line-count tt (rw (first_taken s, (second_ended t).0, (second_ended t).1))

  only-second : Ended p.first a us more A clean → Taken p.second b vs further B → G (moved p (Said (OnlySecond p.number)) A B)
  unfolding differences_from
  only-second s t = goes (Said (OnlySecond p.number)) (OnlySecond n ∷ []) (rw en) line-count tt (rw ((first_ended s).0, (first_ended s).1, second-taken t))

  neither : Ended p.first a us more A clean → Ended p.second b vs further B clean → G (halted p (Last (Differences p.lines)))
  unfolding differences_from
  neither s t = stays (Last (Differences p.lines)) refl (rw ((first_ended s).0, (second_ended t).0), refl)

  fronts-passed : (w : Bool) → w ≡ same_bytes (take A.length us) (take B.length vs) → (s : Sign) → Says s p.first a us more A → (t : Sign) → Says t p.second b vs further B
      → G (moved_by p (judge s t w p.number p.lines) A B)
  fronts-passed w e sign.Record s sign.Record t = both w e s t
  fronts-passed w e sign.Record s sign.Gone t = only-first s t
  fronts-passed w e sign.Record s sign.More t = stays Wait refl tt
  fronts-passed w e sign.Record s sign.Bad t = stays Broken refl tt
  fronts-passed w e sign.Gone s sign.Record t = only-second s t
  fronts-passed w e sign.Gone s sign.Gone t = neither s t
  fronts-passed w e sign.Gone s sign.More t = stays Wait refl tt
  fronts-passed w e sign.Gone s sign.Bad t = stays Broken refl tt
  fronts-passed w e sign.More s sign.Record t = stays Wait refl tt
  fronts-passed w e sign.More s sign.Gone t = stays Wait refl tt
  fronts-passed w e sign.More s sign.More t = stays Wait refl tt
  fronts-passed w e sign.More s sign.Bad t = stays Broken refl tt
  fronts-passed w e sign.Bad s t u = stays Broken refl tt

module _ (xs ys more further : List ℕ) (ends closes : Bool) (he : ends ≡ true → more ≡ []) (hc : closes ≡ true → further ≡ []) where
  pub pair-passed : (n k : ℕ) (p : Pass) (a b : ℕ) → p.number ≡ capped n → p.lines ≡ capped k → p.here ≤ length xs → p.there ≤ length ys
      → Passed n k p a b xs ys more further (pair_step p xs ys ends closes)
  unfolding pair_step
  pair-passed n k p a b en ek hx hy =
      let u = drop p.here xs in
      let v = drop p.there ys in
      fronts-passed n k p a b xs ys more further (first_front p xs ends) (second_front p ys closes) en ek
      (omega (arith, front-within p.first u ends, length-drop p.here xs))
      (omega (arith, front-within p.second v closes, length-drop p.there ys))
      _ refl (first_front p xs ends).sign (look-passes p.first a u ends more he) (second_front p ys closes).sign (look-passes p.second b v closes further hc)

  abbrev Goal : ℕ → ℕ → ℕ → Pass → ℕ → ℕ → Type 0
  Goal j n k p a b = p.number ≡ capped n → p.lines ≡ capped k → p.here ≤ length xs → p.there ≤ length ys → Passed n k p a b xs ys more further (pass_from j p xs ys ends closes)

  -- two records that are the same, and what follows
  onward : (j n k : ℕ) (p : Pass) (a b : ℕ) (r : Pass) (q : Passed n k p a b xs ys more further r) → is_same r.event ≡ true → Goal j q.now k r q.first q.second
      → Passed n k p a b xs ys more further (pass_from j r xs ys ends closes)
  onward j n k p a b r q h ih =
      let none : q.lines ≡ [] = no_lines q.lines (q.told ∙ is_same-said r.event h) in
      let ek : r.lines ≡ capped k = q.count ∙ rw none (sym (plus-zero k)) in
      let s = ih q.number ek q.here q.there in
      record {
        now = s.now;
        first = s.first;
        second = s.second;
        lines = s.lines;
        told = s.told;
        number = s.number;
        count = s.count;
        over = s.over;
        here = s.here;
        there = s.there;
        rest = q.rest ∙ ap (λ (l : List Line). l ++ todo q.now r q.first q.second (drop r.here xs ++ more) (drop r.there ys ++ further)) none ∙ s.rest;
      }

  pub pass-passed : (j n k : ℕ) (p : Pass) (a b : ℕ) → Goal j n k p a b
  pass-passed zero n k p a b en ek hx hy = pair-passed n k p a b en ek hx hy
  pass-passed (suc j) n k p a b en ek hx hy =
      go (pair-passed n k p a b en ek hx hy) (λ m c d. pass-passed j m k (pair_step p xs ys ends closes) c d) (is_same (pair_step p xs ys ends closes).event) refl
    where
      r : Pass
      r = pair_step p xs ys ends closes

      go : Passed n k p a b xs ys more further r → ((m c d : ℕ) → Goal j m k r c d) → (w : Bool) → is_same r.event ≡ w
          → Passed n k p a b xs ys more further (cond w (pass_from j r xs ys ends closes) r)
      go q ih true h = onward j n k p a b r q h (ih q.now q.first q.second)
      go q ih false h = q

-- ---- calls one after the other

-- how many of the bytes that are not passed yet are lent, and whether the caller says that there are no more
pub record Call : Type 0 where
  pub first : ℕ
  pub second : ℕ
  pub ends : Bool
  pub closes : Bool

abbrev pub called : Call → Pass → List ℕ → List ℕ → Pass
called c p us vs = pass_of p (take c.first us) (take c.second vs) c.ends c.closes

-- the caller says so only where it is so
pub record Honest (c : Call) (us vs : List ℕ) : Type 0 where
  pub ends : c.ends ≡ true → drop c.first us ≡ []
  pub closes : c.closes ≡ true → drop c.second vs ≡ []

-- after the last line nothing more is asked
abbrev pub unless_last : Event → List Call → Type 0 → Type 0
unless_last Same cs t = t
unless_last (Said l) cs t = t
unless_last (Last l) cs t = cs ≡ []
unless_last Wait cs t = t
unless_last Broken cs t = t

abbrev pub Run : List Call → Pass → List ℕ → List ℕ → Type 0
Run [] p us vs = ⊥
Run (c ∷ cs) p us vs =
    Honest c us vs × unless_last (called c p us vs).event cs (Run cs (called c p us vs) (drop (called c p us vs).here us) (drop (called c p us vs).there vs))

-- a line, the last one included
abbrev pub spoken : Event → List Line
spoken Same = []
spoken (Said l) = l ∷ []
spoken (Last l) = l ∷ []
spoken Wait = []
spoken Broken = []

abbrev pub printed : List Call → Pass → List ℕ → List ℕ → List Line
printed [] p us vs = []
printed (c ∷ cs) p us vs = spoken (called c p us vs).event ++ printed cs (called c p us vs) (drop (called c p us vs).here us) (drop (called c p us vs).there vs)

-- all that is still to be printed
abbrev pub whole : ℕ → List Line → List Line
whole k ls = map capped_line ls ++ Differences (capped (k + length ls)) ∷ []

pub split : (i f : ℕ) (us : List ℕ) → i ≤ length (take f us) → drop i (take f us) ++ drop f us ≡ drop i us
split i f us h = sym (drop-append-le i (take f us) (drop f us) h) ∙ ap (λ (l : List ℕ). drop i l) (take-append-drop f us)

module _ (c : Call) (cs : List Call) (p : Pass) (us vs : List ℕ) (n k a b : ℕ) (en : p.number ≡ capped n) (ek : p.lines ≡ capped k) (hon : Honest c us vs) where
  abbrev r : Pass
  r = called c p us vs

  abbrev us' : List ℕ
  us' = drop r.here us

  abbrev vs' : List ℕ
  vs' = drop r.there vs

  pub record Stepped : Type 0 where
    pub now : ℕ
    pub first : ℕ
    pub second : ℕ
    pub lines : List Line
    pub told : map capped_line lines ≡ said r.event
    pub rest : todo n p a b us vs ≡ lines ++ todo now r first second us' vs'
    pub number : r.number ≡ capped now
    pub count : r.lines ≡ capped (k + length lines)
    pub over : Over r.event r (todo now r first second us' vs')

  stepped : Stepped
  stepped =
      let q = pass-passed (take c.first us) (take c.second vs) (drop c.first us) (drop c.second vs) c.ends c.closes hon.ends
      hon.closes (length (take c.first us)) n k (anew p) a b en ek (omega arith) (omega arith) in
      let e : drop r.here (take c.first us) ++ drop c.first us ≡ us' = split r.here c.first us q.here in
      let d : drop r.there (take c.second vs) ++ drop c.second vs ≡ vs' = split r.there c.second vs q.there in
      record {
        now = q.now;
        first = q.first;
        second = q.second;
        lines = q.lines;
        told = q.told;
        rest =
            ap (λ (l : List ℕ). todo n p a b l vs) (sym (take-append-drop c.first us))
            ∙ ap (λ (l : List ℕ). todo n p a b (take c.first us ++ drop c.first us) l) (sym (take-append-drop c.second vs))
            ∙ q.rest
            ∙ ap (λ (l : List ℕ). q.lines ++ todo q.now r q.first q.second l (drop r.there (take c.second vs) ++ drop c.second vs)) e
            ∙ ap (λ (l : List ℕ). q.lines ++ todo q.now r q.first q.second us' l) d;
        number = q.number;
        count = q.count;
        over = subst (λ (l : List ℕ). Over r.event r (todo q.now r q.first q.second us' l)) d
            (subst (λ (l : List ℕ). Over r.event r (todo q.now r q.first q.second l (drop r.there (take c.second vs) ++ drop c.second vs))) e q.over);
      }

  -- the line of a call, and then what the later ones print
  before : (q : Stepped) (v : Event) → r.event ≡ v → spoken v ≡ said v → spoken v ++ whole (k + length q.lines) (todo q.now r q.first q.second us' vs') ≡ whole k (todo n p a b us vs)
  before q v w e =
      let t = todo q.now r q.first q.second us' vs' in
      let m : ℕ = k + length q.lines + length t in
      let l : m ≡ k + length (q.lines ++ t) = omega (arith, length-append q.lines t) in
      ap (λ (z : List Line). z ++ whole (k + length q.lines) t) (e ∙ sym (ap said w) ∙ sym q.told)
      ∙ sym (append_assoc (map capped_line q.lines) (map capped_line t) (Differences (capped m) ∷ []))
      ∙ ap (λ (z : List Line). z ++ Differences (capped m) ∷ []) (sym (map-append capped_line q.lines t))
      ∙ ap (λ (z : ℕ). map capped_line (q.lines ++ t) ++ Differences (capped z) ∷ []) l
      ∙ ap (λ (z : List Line). whole k z) (sym q.rest)

  -- the last call
  ended : (q : Stepped) (l : Line) → r.event ≡ Last l → l ∷ [] ≡ whole k (todo n p a b us vs)
  ended q l e =
      let t = todo q.now r q.first q.second us' vs' in
      let o : Over (Last l) r t = subst (λ (z : Event). Over z r t) e q.over in
      let none : q.lines ≡ [] = no_lines q.lines (q.told ∙ ap said e) in
      let nothing : todo n p a b us vs ≡ [] = q.rest ∙ ap (λ (z : List Line). z ++ t) none ∙ o.0 in
      ap (λ (z : Line). z ∷ []) o.1 ∙ ap (λ (z : ℕ). Differences z ∷ []) (q.count ∙ ap (λ (z : List Line). capped (k + length z)) none) ∙ ap (λ (z : List Line). whole k z) (sym nothing)

  abbrev Later : Type 0
  Later = (m j c d : ℕ) → r.number ≡ capped m → r.lines ≡ capped j → Run cs r us' vs' → printed cs r us' vs' ≡ whole j (todo m r c d us' vs')

  call-prints : Later → (v : Event) → r.event ≡ v → unless_last v cs (Run cs r us' vs') → spoken v ++ printed cs r us' vs' ≡ whole k (todo n p a b us vs)
  call-prints ih v w h = go v w h
    where
      q : Stepped
      q = stepped

      on : (v : Event) → r.event ≡ v → spoken v ≡ said v → Run cs r us' vs' → spoken v ++ printed cs r us' vs' ≡ whole k (todo n p a b us vs)
      on v w e h = ap (λ (z : List Line). spoken v ++ z) (ih q.now (k + length q.lines) q.first q.second q.number q.count h) ∙ before q v w e

      go : (v : Event) → r.event ≡ v → unless_last v cs (Run cs r us' vs') → spoken v ++ printed cs r us' vs' ≡ whole k (todo n p a b us vs)
      go Same w h = on Same w refl h
      go (Said l) w h = on (Said l) w refl h
      go (Last l) w h = ap (λ (z : List Call). l ∷ printed z r us' vs') h ∙ ended q l w
      go Wait w h = on Wait w refl h
      go Broken w h = on Broken w refl h

pub run-prints : (cs : List Call) (p : Pass) (us vs : List ℕ) (n k a b : ℕ) → p.number ≡ capped n → p.lines ≡ capped k → Run cs p us vs → printed cs p us vs ≡ whole k (todo n p a b us vs)
run-prints [] p us vs n k a b en ek h = absurd h
run-prints (c ∷ cs) p us vs n k a b en ek h =
    call-prints c cs p us vs n k a b en ek h.0
    (λ m j d e x y z. run-prints cs (called c p us vs) (drop (called c p us vs).here us) (drop (called c p us vs).there vs) m j d e x y z) (called c p us vs).event refl h.1

pub none-capped : 0 ≡ capped 0
unfolding capped
none-capped = refl

zero-plus : (m : ℕ) → 0 + m ≡ m
zero-plus m = omega arith

-- two well-formed captures: any run over them that has come to its last line has printed the comparison
pub compare-prints : (cs : List Call) (xs ys : List ℕ) → (reading_of xs).ending ≡ clean → (reading_of ys).ending ≡ clean
    → Run cs fresh_pass xs ys → printed cs fresh_pass xs ys ≡ map capped_line (compared_of xs ys)
unfolding comparison_of
compare-prints cs xs ys ex ey h =
    let e : printed cs fresh_pass xs ys ≡ whole 0 (todo 0 fresh_pass 0 0 xs ys) = run-prints cs fresh_pass xs ys 0 0 0 0 none-capped none-capped h in
    let t = differences_from 0 (reading_of xs).records (reading_of ys).records in
    e ∙ ap (λ (q : Reading). whole 0 (differences_from 0 q.records (rest_of Start 0 ys).records)) (rest-whole xs) ∙ ap
    (λ (q : Reading). whole 0 (differences_from 0 (reading_of xs).records q.records)) (rest-whole ys)
    ∙ ap (λ (z : ℕ). map capped_line t ++ Differences (capped z) ∷ []) (zero-plus (length t)) ∙ sym (map-append capped_line t (Differences (length t) ∷ [])) ∙ rw (ex, ey)
