-- A decoder like ours is always accepted: it hands over the answer of 01, with its ties, and the least sums into each state. There is such a card for every
-- list of 1 to 64 good symbols, made here of what the search finds.
--   like-accepted     whatever answer the promise of the check allows for such a card, it is that it is accepted
--   like-words        the words of its symbols are those of the answer, as a receiver says them that heard a piece of the same coordinates
--   heard-as-told     the symbols of a list of coordinates are those of the piece that a receiver is handed
--   some-like         there is such a card
use mathlib.Core.Path.{◌≡◌, refl, sym, ap, ap₂, subst, ◌∙◌}
use mathlib.Core.Bool.{Bool, true}
use mathlib.Core.List.{List, [], ◌∷◌, ◌++◌, reverse, reverse-cons}
use Prim.Native.Nat.{ℕ, zero, suc, ◌+◌, ◌*◌, ◌/◌, ◌%◌, ◌≤◌, ◌<◌}
use native.Mathlib.Omega.{arith}
use lib.IntN.{ℤ, pos}
use lib.ListN.{get_or-append, length, get_or, length-append}
use lib.Seq.{get_or-append-add}
use Rattle.lists.specs.Tabled.{tabled}
use Rattle.lists.proofs.Filled.{tabled-length, tabled-at}
use Rattle.wei.specs.Symbol.{Symbol}
use Rattle.wei.proofs.States.{before-below}
use Rattle.wei.specs.State.{before}
use Rattle.points.specs.declared.Accord.{Accord}
use Rattle.points.specs.Agreed.{is_accord}
use Rattle.trellis.specs.Code.{Path, begin, step, symbols, Allowed, Reached}
use Rattle.trellis.specs.Best.{Surv, absent, alive, Answer, Found, Answered}
use Rattle.trellis.specs.Search.{Search, surv, answer}
use Rattle.trellis.specs.Measure.{Two, free}
use Rattle.trellis.specs.Same.{numbers}
use Rattle.trellis.specs.Said.{answer_words}
use Rattle.trellis.proofs.Optimal.{surv-found}
use Rattle.trellis.proofs.Answer.{answer-answered}
use Rattle.trellis.proofs.Branches.{before-in}
use Rattle.trellis.proofs.Spoken.{answer-words}
use Rattle.nearest.specs.declared.Received.{Received}
use Rattle.nearest.specs.Line.{BothInRange, line_measure, line_choice}
use Rattle.nearest.proofs.Laws.{line-chooses}
use Rattle.receiver_meaning.specs.Told.{words_of}
use Rattle.receiver_meaning.specs.Piece.{symbol_from, symbols_of}
use Rattle.receiver_meaning.proofs.Search.{search_of, laws}
use Rattle.card.specs.Card.{Card, count_of, heard_in, state_at, symbol_at, up_to, sequence_to, line_code, LeastInto, LikeOurs}
use Rattle.card.specs.Promise.{Checks}

-- ---- accepted

pub like-accepted : (k : Accord) (c : Card) → LikeOurs k c → (r : Bool) → Checks k c r → r ≡ true
like-accepted k c l r p = p.complete l.whole l.sums (record { allowed = l.answer.allowed; least = λ q a. (l.answer.least q a).by-sum })

-- ---- what is heard

up-front : {Y : Type 0} (f : ℕ → Y) (n : ℕ) → up_to f (suc n) ≡ up_to (λ i. f (suc i)) n ++ (f zero ∷ [])
up-front f zero = refl
up-front f (suc n) = ap (λ (l : List _). f (suc n) ∷ l) (up-front f n)

up_same : {Y : Type 0} (f g : ℕ → Y) → ((i : ℕ) → f i ≡ g i) → (n : ℕ) → up_to f n ≡ up_to g n
up_same f g e zero = refl
up_same f g e (suc n) = ap₂ (λ (y : _) (l : List _). y ∷ l) (e n) (up_same f g e n)

-- four coordinates more in front
module _ (a b c d : ℤ) (xs : List ℤ) where
  later : (j m : ℕ) → j ≡ suc (suc (suc (suc m))) → get_or (a ∷ b ∷ c ∷ d ∷ xs) j (pos 0) ≡ get_or xs m (pos 0)
  later j m e = ap (λ (x : ℕ). get_or (a ∷ b ∷ c ∷ d ∷ xs) x (pos 0)) e

  heard-later : (i : ℕ) → heard_in (a ∷ b ∷ c ∷ d ∷ xs) (suc i) ≡ heard_in xs i
  heard-later i =
      let z₀ = later (4 * suc i) (4 * i) (omega arith) in
      let z₁ = later (4 * suc i + 1) (4 * i + 1) (omega arith) in
      let z₂ = later (4 * suc i + 2) (4 * i + 2) (omega arith) in
      let z₃ = later (4 * suc i + 3) (4 * i + 3) (omega arith) in
      λ j. symbol_from (z₀ j) (z₁ j) (z₂ j) (z₃ j)

pub heard-as-told : (xs : List ℤ) → up_to (heard_in xs) (length xs / 4) ≡ reverse (symbols_of xs)
heard-as-told [] = refl
heard-as-told (a ∷ []) = refl
heard-as-told (a ∷ b ∷ []) = refl
heard-as-told (a ∷ b ∷ c ∷ []) = refl
heard-as-told (a ∷ b ∷ c ∷ d ∷ xs) =
    let f = heard_in (a ∷ b ∷ c ∷ d ∷ xs) in
    ap (up_to f) (let e : suc (suc (suc (suc (length xs)))) / 4 ≡ suc (length xs / 4) = omega arith in e)
    ∙ up-front f (length xs / 4)
    ∙ ap (λ (l : List (Two Received)). l ++ (symbol_from a b c d ∷ [])) (up_same (λ i. f (suc i)) (heard_in xs) (heard-later a b c d xs) (length xs / 4) ∙ heard-as-told xs)
    ∙ sym (reverse-cons (symbol_from a b c d) (symbols_of xs))

pub like-words : (k : Accord) (c : Card) → LikeOurs k c →
    words_of k free (symbols (sequence_to c (count_of c))) ≡ answer_words k.u (line_measure k) (line_choice k) free (reverse (symbols_of c.coordinates))
like-words k c l =
    let a = subst (λ (ys : List (Two Received)). Answer (line_code k) ys (sequence_to c (count_of c))) (heard-as-told c.coordinates) l.answer in
    sym (answer-words k.u (line_measure k) (line_choice k) (line-chooses k) free tt (symbols_of c.coordinates) (sequence_to c (count_of c)) a)

-- ---- what is found

-- the sequence, and its sum
abbrev path_in : Surv (Path Symbol) → Path Symbol
path_in absent = begin 0
path_in (alive w p) = p

abbrev sum_in : Surv (Path Symbol) → ℕ
sum_in absent = 0
sum_in (alive w p) = w

module _ (k : Accord) where
  abbrev S : Search (line_code k)
  S = search_of k free

  -- with a free start every state is reached
  all-reached : (ys : List (Two Received)) (s : ℕ) → s < 16 → Reached (line_code k) ys s
  all-reached [] s h = record { by = begin s; allowed = (h, tt); ends = refl }
  all-reached (y ∷ ys) s h =
      let t = before s 0 in
      let l : t < 16 = before-below s 0 h (omega arith) in
      let r = all-reached ys t l in
      let c = S.pick y t s in
      let b = (laws k free).pick-branch y t s h (before-in s 0 (omega arith)) in
      record { by = step r.by c s; allowed = (h, rw r.ends b, r.allowed); ends = refl }

  found-least : (ys : List (Two Received)) (s : ℕ) → s < 16 → LeastInto (line_code k) ys s (sum_in (surv S ys s))
  found-least ys s h = go (surv S ys s) (surv-found S (laws k free) ys s h)
    where
      go : (o : Surv (Path Symbol)) → Found (line_code k) ys s o → LeastInto (line_code k) ys s (sum_in o)
      go absent f = absurd (f (all-reached ys s h))
      go (alive w p) (b, e) =
          record { by = p; allowed = b.allowed; ends = b.ends; sum = e; least = λ q a z. omega (arith, e, (b.least q a z).by-sum) }

  found-answer : (ys : List (Two Received)) → Answer (line_code k) ys (path_in (answer S ys))
  found-answer ys = go (answer S ys) (answer-answered S (laws k free) ys)
    where
      go : (o : Surv (Path Symbol)) → Answered (line_code k) ys o → Answer (line_code k) ys (path_in o)
      go absent f = let r = all-reached ys 0 (omega arith) in absurd (f r.by r.allowed)
      go (alive w p) f = f.0

-- ---- its lists

-- the states of a sequence, and its symbols, six numbers each, in the order of time
abbrev states_of : Path Symbol → List ℕ
states_of (begin s) = s ∷ []
states_of (step p c s) = states_of p ++ (s ∷ [])

abbrev sixes : Path Symbol → List ℕ
sixes (begin s) = []
sixes (step p c s) = sixes p ++ numbers c

-- how many symbols a sequence has
abbrev size : Path Symbol → ℕ
size (begin s) = zero
size (step p c s) = suc (size p)

states-length : (p : Path Symbol) → length (states_of p) ≡ size p + 1
states-length (begin s) = omega arith
states-length (step p c s) = omega (arith, length-append (states_of p) (s ∷ []), states-length p)

sixes-length : (p : Path Symbol) → length (sixes p) ≡ 6 * size p
sixes-length (begin s) = omega arith
sixes-length (step p c s) = omega (arith, length-append (sixes p) (numbers c), sixes-length p)

-- a sequence looks at the first states and symbols alone
module _ (c d : Card) where
  same-sequence : (i : ℕ) → ((j : ℕ) → j ≤ i → state_at c j ≡ state_at d j) → ((j : ℕ) → j < i → symbol_at c j ≡ symbol_at d j) → sequence_to c i ≡ sequence_to d i
  same-sequence zero s y = ap begin (s zero (omega arith))
  same-sequence (suc i) s y =
      let z = same-sequence i (λ j h. s j (omega arith)) (λ j h. y j (omega arith)) in
      let z₁ = y i (omega arith) in
      let z₂ = s (suc i) (omega arith) in
      cc

-- what stands in two lists, one after the other
front : (l m : List ℕ) (j : ℕ) → j < length l → get_or (l ++ m) j 0 ≡ get_or l j 0
front l m j h = get_or-append l m 0 j h

past : (l m : List ℕ) (j r : ℕ) → j ≡ length l + r → get_or (l ++ m) j 0 ≡ get_or m r 0
past l m j r e = ap (λ (x : ℕ). get_or (l ++ m) x 0) e ∙ get_or-append-add l m r 0

module _ (xs : List ℤ) (ns : List ℕ) where
  abbrev made : Path Symbol → Card
  made p = record { coordinates = xs; states = states_of p; symbols = sixes p; numbers = ns }

  older : (p : Path Symbol) (c : Symbol) (s j : ℕ) → j < size p → symbol_at (made (step p c s)) j ≡ symbol_at (made p) j
  older p c s j h =
      let l = sixes-length p in
      let z₀ = front (sixes p) (numbers c) (6 * j) (omega arith) in
      let z₁ = front (sixes p) (numbers c) (6 * j + 1) (omega arith) in
      let z₂ = front (sixes p) (numbers c) (6 * j + 2) (omega arith) in
      let z₃ = front (sixes p) (numbers c) (6 * j + 3) (omega arith) in
      let z₄ = front (sixes p) (numbers c) (6 * j + 4) (omega arith) in
      let z₅ = front (sixes p) (numbers c) (6 * j + 5) (omega arith) in
      λ i. record { y0 = z₀ i; i1 = z₁ i; i2 = z₂ i; i3 = z₃ i; w1 = z₄ i; w2 = z₅ i }

  newest : (p : Path Symbol) (c : Symbol) (s : ℕ) → symbol_at (made (step p c s)) (size p) ≡ c
  newest p c s =
      let l = sixes-length p in
      let z₀ = past (sixes p) (numbers c) (6 * size p) 0 (omega arith) in
      let z₁ = past (sixes p) (numbers c) (6 * size p + 1) 1 (omega arith) in
      let z₂ = past (sixes p) (numbers c) (6 * size p + 2) 2 (omega arith) in
      let z₃ = past (sixes p) (numbers c) (6 * size p + 3) 3 (omega arith) in
      let z₄ = past (sixes p) (numbers c) (6 * size p + 4) 4 (omega arith) in
      let z₅ = past (sixes p) (numbers c) (6 * size p + 5) 5 (omega arith) in
      λ i. record { y0 = z₀ i; i1 = z₁ i; i2 = z₂ i; i3 = z₃ i; w1 = z₄ i; w2 = z₅ i }

  made-sequence : (p : Path Symbol) → sequence_to (made p) (size p) ≡ p
  made-sequence (begin s) = refl
  made-sequence (step p c s) =
      let before = same-sequence (made (step p c s)) (made p) (size p) (λ j h. front (states_of p) (s ∷ []) j (omega (arith, states-length p))) (older p c s) in
      let z₀ : sequence_to (made (step p c s)) (size p) ≡ p = before ∙ made-sequence p in
      let z₁ = newest p c s in
      let z₂ = past (states_of p) (s ∷ []) (suc (size p)) 0 (omega (arith, states-length p)) in
      λ i. step (z₀ i) (z₁ i) (z₂ i)

-- the number at each place of a row after a row
rows_to : Accord → (ℕ → Two Received) → ℕ → List ℕ
rows_to k f n = tabled (λ j. sum_in (surv (S k) (up_to f (j / 16)) (j % 16))) (16 * (n + 1))

rows_at : (k : Accord) (f : ℕ → Two Received) (n i s : ℕ) → i ≤ n → s < 16 → get_or (rows_to k f n) (16 * i + s) 0 ≡ sum_in (surv (S k) (up_to f i) s)
unfolding rows_to
rows_at k f n i s h g =
    let row : (16 * i + s) / 16 ≡ i = omega arith in
    let place : (16 * i + s) % 16 ≡ s = omega arith in
    tabled-at _ (16 * (n + 1)) (16 * i + s) (omega arith) ∙ ap₂ (λ (j t : ℕ). sum_in (surv (S k) (up_to f j) t)) row place

-- ---- the card

allowed-size : (k : Accord) (f : ℕ → Two Received) (n : ℕ) (p : Path Symbol) → Allowed (line_code k) (up_to f n) p → size p ≡ n
allowed-size k f zero (begin s) a = refl
allowed-size k f zero (step p c s) a = absurd a
allowed-size k f (suc n) (begin s) a = absurd a
allowed-size k f (suc n) (step p c s) a = ap suc (allowed-size k f n p a.2)

module _ (k : Accord) (xs : List ℤ) where
  abbrev n : ℕ
  n = length xs / 4

  abbrev p : Path Symbol
  p = path_in (answer (S k) (up_to (heard_in xs) n))

  abbrev ours : Card
  ours = made xs (rows_to k (heard_in xs) n) p

  sized : size p ≡ n
  sized = allowed-size k (heard_in xs) n p (found-answer k (up_to (heard_in xs) n)).allowed

  ours-sequence : sequence_to ours n ≡ p
  ours-sequence = subst (λ (m : ℕ). sequence_to ours m ≡ p) sized (made-sequence xs (rows_to k (heard_in xs) n) p)

  pub some-like : is_accord k ≡ true → 1 ≤ n → n ≤ 64 → length xs ≡ 4 * n → ((i : ℕ) → i < n → BothInRange (heard_in xs i)) → (c : Card) × (c.coordinates ≡ xs) × LikeOurs k c
  unfolding rows_to
  some-like a some few long ranged = (
    ours,
    refl,
    record {
      whole = record {
        agreed = a;
        some = some;
        few = few;
        coordinates-long = long;
        states-long = omega (arith, states-length p, sized);
        symbols-long = omega (arith, sixes-length p, sized);
        numbers-long = tabled-length _ (16 * (n + 1));
        in-range = ranged;
      };
      answer = subst (Answer (line_code k) (up_to (heard_in xs) n)) (sym ours-sequence) (found-answer k (up_to (heard_in xs) n));
      sums = λ i s h g. subst (LeastInto (line_code k) (up_to (heard_in xs) i) s) (sym (rows_at k (heard_in xs) n i s h g)) (found-least k (up_to (heard_in xs) i) s g);
    },
  )
