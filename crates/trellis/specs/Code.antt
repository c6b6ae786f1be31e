-- What a trellis code is, which sequences it allows for a list of received symbols, and their sums of distances. Nothing here
-- says how a best sequence is found. Received symbols stand newest first, and a sequence is built towards its newest symbol,
-- so that "the last state, then the state before it" is the way that every recursion goes.
--   Code             received symbols, candidates, states, first states, branches, distance, order of candidates
--   Path C           a sequence: its first state; or a sequence, the candidate of one more symbol, the state that it leads to
--   last p           the last state
--   states p         the states, the last one first
--   symbols p        the candidates, the oldest first
--   Allowed K ys p   p is allowed for the received ys
--   cost K ys p      the sum of p's distances from ys
--   Reached K ys s   some allowed sequence for ys ends in s
--   Onward K         some state may stand first, and each state leads on to one: then every list has an allowed sequence
use Rattle.std.specs.Prelude.{◌≡◌, Bool, List, [], ◌∷◌, ◌++◌, ℕ, zero, ◌+◌, ◌<◌, T}

pub record Code : Type 1 where
  -- a received symbol; a candidate: what can have been sent for one symbol
  pub Y : Type 0
  pub C : Type 0
  -- the states are the numbers below N
  pub N : ℕ
  -- the states that may stand first
  pub start : ℕ → Bool
  -- Branch s t c: the candidate c carries the state s to the state t
  pub Branch : ℕ → ℕ → C → Type 0
  -- how far a candidate is from what was received
  pub dist : Y → C → ℕ
  -- Cle y c d: of candidates equally far from y, c is before d or is d
  pub Cle : Y → C → C → Type 0

pub data Path (C : Type 0) : Type 0 where
  begin : ℕ → Path C
  step : Path C → C → ℕ → Path C

module _ {C : Type 0} where
  abbrev pub last : Path C → ℕ
  last (begin s) = s
  last (step p c s) = s

  abbrev pub states : Path C → List ℕ
  states (begin s) = s ∷ []
  states (step p c s) = s ∷ states p

  abbrev pub symbols : Path C → List C
  symbols (begin s) = []
  symbols (step p c s) = symbols p ++ (c ∷ [])

module _ (K : Code) where
  open K use {Y, C, N, start, Branch, dist}

  -- "a state sequence and symbols such that each symbol carries its state to the next"
  abbrev pub Allowed : List Y → Path C → Type 0
  Allowed [] (begin s) = (s < N) × T (start s)
  Allowed [] (step p c s) = ⊥
  Allowed (y ∷ ys) (begin s) = ⊥
  Allowed (y ∷ ys) (step p c s) = (s < N) × Branch (last p) s c × Allowed ys p

  abbrev pub cost : List Y → Path C → ℕ
  cost [] p = zero
  cost (y ∷ ys) (begin s) = zero
  cost (y ∷ ys) (step p c s) = cost ys p + dist y c

  pub record Reached (ys : List Y) (s : ℕ) : Type 0 where
    pub by : Path C
    pub allowed : Allowed ys by
    pub ends : last by ≡ s

  pub record Onward : Type 0 where
    pub from : ℕ
    pub from-below : from < N
    pub from_start : T (start from)
    pub to : ℕ → ℕ
    pub by : ℕ → C
    pub to_below : (s : ℕ) → s < N → to s < N
    pub to-branch : (s : ℕ) → s < N → Branch s (to s) (by s)
