-- One record that is no word, run on a line where no word is due.
--   Turned s w n     s is what a replay sees after the record, n words having agreed before it, and w is `running`: taken, the line and the words
--                    are those of w; refused, the replay says so, and w gives no word
--   run-taken, run-refused, run-quiet   so it is of every record that is no word
--   fine-running     what a line has been told stays such as calls can tell
--   small-running    the words that belong there fit a record
use mathlib.Core.Path.{◌≡◌, refl, sym}
use mathlib.Core.Bool.{Bool, true, false}
use mathlib.Core.List.{List, [], ◌∷◌}
use Prim.Native.Nat.{ℕ, ◌+◌, ◌<◌}
use native.Mathlib.Omega.{arith}
use lib.Dec.{eqb}
use lib.ListN.{replicate}
use Rattle.trellis.specs.Lists.{Every}
use Rattle.receiver_meaning.specs.Piece.{Piece, marked_piece}
use Rattle.receiver_meaning.specs.Owed.{piece_owed, finish_owed}
use Rattle.receiver_meaning.proofs.Speaks.{piece-below, finish-below}
use Rattle.openings.specs.Given.{start_at}
use Rattle.openings.specs.Opening.{opening_owed}
use Rattle.records.specs.declared.Role.{Role}
use Rattle.records.specs.declared.Role.TheVariants.{Open, Symbol, Word, Finish, Unknown}
use Rattle.records.specs.Kinds.{kind_of}
use Rattle.records.specs.Values.{Entry, accord_of, window_of, start_of, mark_in, coordinates_of}
use Rattle.records.specs.Frames.{capped}
use Rattle.replay_judge.specs.declared.Verdict.TheVariants.{Agree, Refused}
use Rattle.replay_judge.specs.Judging.{State, left}
use Rattle.replay.specs.Meaning.{Line, closed, told, agreed, Seen, answered, room, opened, hears, ends, by_role, taking}
use Rattle.replay.proofs.Meant.{receiver_of, FineLine, Shows, shows-took}
use Rattle.replay.proofs.Words.{seen, all_small}
use Rattle.salvage_meaning.specs.Salvage.{is_word_role, is_word, waiting, running}

pub false-true : false ≡ true → ⊥
false-true e = let z : ◌≡◌ {A = ℕ} 0 1 = cc in omega arith

-- ---- taken or refused

pub record Taken (s : Seen) (l : Line) (due : List ℕ) (n : ℕ) : Type 0 where
  pub number : ℕ
  pub is : s ≡ seen l due number n

pub record RefusedAt (s : Seen) : Type 0 where
  pub number : ℕ
  pub reason : ℕ
  pub is : s.verdict ≡ Refused number reason

-- s is what is seen after the record, and w what `running` says of it
record Turned (s w : Seen) (n : ℕ) : Type 0 where
  yes : agreed w.verdict ≡ true → Taken s w.line w.due n
  no : agreed w.verdict ≡ false → RefusedAt s
  quiet : agreed w.verdict ≡ false → w.due ≡ []

module _ (l : Line) (m n : ℕ) where
  answers : (x : ℕ) (l' : Line) (ws : List ℕ) → Turned (answered (seen l [] m n) x l' ws) (answered (waiting l) x l' ws) n
  answers x l' ws = go (eqb x 0) refl
    where
      go : (b : Bool) → eqb x 0 ≡ b → Turned (answered (seen l [] m n) x l' ws) (answered (waiting l) x l' ws) n
      go true e = rw e (record { yes = λ _. record { number = m + 1; is = refl }; no = λ z. absurd (false-true (sym z)); quiet = λ z. absurd (false-true (sym z)) })
      go false e = rw e (record { yes = λ z. absurd (false-true z); no = λ _. record { number = m; reason = x; is = refl }; quiet = λ _. refl })

  -- a symbol and a finish on the line q, which is l
  turned-symbol : (q : Line) (k : ℕ) (b : List ℕ) → Turned (hears (seen l [] m n) q k b) (hears (waiting l) q k b) n
  turned-symbol closed k b = answers 9 closed []
  turned-symbol (told t) k b =
      let d = piece_owed t (marked_piece (mark_in k b ∷ []) (coordinates_of k b)) room in
      answers d.reason.number (told d.told) d.words

  turned-finish : (q : Line) → Turned (ends (seen l [] m n) q) (ends (waiting l) q) n
  turned-finish closed = answers 9 closed []
  turned-finish (told t) = let d = finish_owed t room in answers d.reason.number closed d.words

  turned-role : (r : Role) (k : ℕ) (b : List ℕ) → is_word_role r ≡ false → Turned (by_role r (seen l [] m n) n k b) (by_role r (waiting l) 0 k b) n
  turned-role Open k b h = answers (opening_owed (accord_of k b) (window_of b) (start_at (start_of b))) (told (opened k b)) []
  turned-role Symbol k b h = turned-symbol l k b
  turned-role Word k b h = absurd (false-true (sym h))
  turned-role Finish k b h = turned-finish l
  turned-role Unknown k b h = record { yes = λ _. record { number = m; is = refl }; no = λ z. absurd (false-true (sym z)); quiet = λ z. refl }

module _ (l : Line) (r : Entry) (h : is_word r ≡ false) where
  turned : (m n : ℕ) → Turned (taking (seen l [] m n) r) (running l r) n
  unfolding taking
  turned m n = turned-role l m n (kind_of r.kind).role r.kind r.body h

  pub run-taken : agreed (running l r).verdict ≡ true → (m n : ℕ) → Taken (taking (seen l [] m n) r) (running l r).line (running l r).due n
  run-taken e m n = (turned m n).yes e

  pub run-refused : agreed (running l r).verdict ≡ false → (m n : ℕ) → RefusedAt (taking (seen l [] m n) r)
  run-refused e m n = (turned m n).no e

  pub run-quiet : agreed (running l r).verdict ≡ false → (running l r).due ≡ []
  run-quiet e = (turned 0 0).quiet e

-- ---- what the line has been told

-- a replay that has come to the line l, and to which no word is due
abbrev pub state_for : Line → State
state_for l = record { receiver = receiver_of l; due = replicate 65 0; given = 0; shown = 0; records = 0; verdict = Agree 0 }

state-shows : (l : Line) → FineLine l → Shows (state_for l) (waiting l)
unfolding left capped
state-shows l f = record { receiver = refl; fine = f; due = refl; long = refl; records = refl; verdict = refl }

pub fine-running : (l : Line) (r : Entry) → FineLine l → FineLine (running l r).line
fine-running l r f = (shows-took (state_for l) (waiting l) r (state-shows l f)).fine

-- ---- the words

abbrev pub Small : List ℕ → Type 0
Small ws = Every (λ w. w < 4294967296) ws

small-answered : (l l' : Line) (x : ℕ) (ws : List ℕ) → Small ws → Small (answered (waiting l) x l' ws).due
small-answered l l' x ws h = go (eqb x 0) refl
  where
    go : (b : Bool) → eqb x 0 ≡ b → Small (answered (waiting l) x l' ws).due
    go true e = rw e h
    go false e = rw e tt

small-role : (l : Line) → FineLine l → (r : Role) (k : ℕ) (b : List ℕ) → is_word_role r ≡ false → Small (by_role r (waiting l) 0 k b).due
small-role l f Open k b h = small-answered l (told (opened k b)) (opening_owed (accord_of k b) (window_of b) (start_at (start_of b))) [] tt
small-role closed f Symbol k b h = small-answered closed closed 9 [] tt
small-role (told t) f Symbol k b h =
    let p : Piece = marked_piece (mark_in k b ∷ []) (coordinates_of k b) in
    let d = piece_owed t p room in
    small-answered (told t) (told d.told) d.reason.number d.words (all_small t f d.words (piece-below t f p room))
small-role l f Word k b h = absurd (false-true (sym h))
small-role closed f Finish k b h = small-answered closed closed 9 [] tt
small-role (told t) f Finish k b h =
    let d = finish_owed t room in small-answered (told t) closed d.reason.number d.words (all_small t f d.words (finish-below t f room))
small-role l f Unknown k b h = tt

pub small-running : (l : Line) (r : Entry) → is_word r ≡ false → FineLine l → Small (running l r).due
unfolding taking
small-running l r h f = small-role l f (kind_of r.kind).role r.kind r.body h
