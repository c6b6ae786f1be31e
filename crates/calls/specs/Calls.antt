-- What anything that speaks and answers does over any list of calls, whichever of them refuse. It hears symbols one after
-- another. For each list of symbols some words are final and may be spoken, and the list has an answer. These two functions fix
-- what every call writes: a symbol adds the words that it makes final, a finish adds the rest of the answer. What follows from
-- that, for every list of calls, is proved in proofs/Theorems.
-- Heard symbols stand newest first: "one more symbol" is `y ∷ ys`, and "ys, then zs" is `zs ++ ys`. The symbols of a piece and
-- all words stand in the order of time.
--   Speaker          symbols, words; what is spoken of a list of symbols, and its answer
--   Speaks S         the laws: nothing is spoken of nothing, what is spoken stays spoken, and it begins the answer
--   Judge S          which symbols are taken, and the reasons that are given
--   fresh S ys y     the words that y adds after ys
--   rest S ys        the words that a finish adds after ys
--   Ended S J        how a piece ended: the symbols heard by then, the words written, how many were taken, why it stopped
--   walk S J ys zs room   hearing the piece zs after ys, with room for so many words, up to the first symbol that is refused
--   Line S           the symbols heard so far, and whether the line is open
--   Call S           a piece with its room, a finish with its room, or a call that is refused whole
--   Called S         what a call does: the line after it, the symbols that it took, the words that it wrote
--   call, calls      what one call does; what a list of calls does, one after the other
--   run S J ks       what a list of calls does after an opening
--   Said S l ws      the words ws are all that the line l owes so far: what is spoken; once it is closed, the answer
use Rattle.std.specs.Prelude.{ℕ, suc, ◌-◌, ◌≡◌, Bool, true, false, leb, length, take, drop}
use mathlib.Core.List.{List, [], ◌∷◌, ◌++◌, IsPrefix}

pub record Speaker : Type 1 where
  -- a symbol, a word
  pub Y : Type 0
  pub W : Type 0
  -- the words of a list that are final, and all words of its answer
  pub spoken : List Y → List W
  pub answered : List Y → List W

pub record Speaks (S : Speaker) : Type 0 where
  pub starts : S.spoken [] ≡ []
  pub grows : (ys : List S.Y) (y : S.Y) → IsPrefix (S.spoken ys) (S.spoken (y ∷ ys))
  pub within : (ys : List S.Y) → IsPrefix (S.spoken ys) (S.answered ys)

pub record Judge (S : Speaker) : Type 1 where
  -- a reason
  pub R : Type 0
  -- judge ys y room: what is said to y, heard after ys with room for so many words; good: that it is taken
  pub judge : List S.Y → S.Y → ℕ → R
  pub good : R → Bool
  -- why a piece stopped that was taken whole
  pub done : R

pub record Ended (S : Speaker) (J : Judge S) : Type 0 where
  pub heard : List S.Y
  pub said : List S.W
  pub taken : ℕ
  pub why : J.R

pub record Line (S : Speaker) : Type 0 where
  pub heard : List S.Y
  pub is_open : Bool

pub data Call (S : Speaker) : Type 0 where
  piece : List S.Y → ℕ → Call S
  finish : ℕ → Call S
  refused : Call S

pub record Called (S : Speaker) : Type 0 where
  pub line : Line S
  pub took : List S.Y
  pub said : List S.W

module _ (S : Speaker) where
  open S use {Y, W, spoken, answered}

  abbrev pub fresh : List Y → Y → List W
  fresh ys y = drop (length (spoken ys)) (spoken (y ∷ ys))

  abbrev pub rest : List Y → List W
  rest ys = drop (length (spoken ys)) (answered ys)

  -- a call that does nothing
  abbrev pub idle : Line S → Called S
  idle l = record { line = l; took = []; said = [] }

  -- "Finish writes the pending words of the answer and closes the receiver", if there is room for them
  abbrev pub ending : List Y → Bool → Called S
  ending ys true = record { line = record { heard = ys; is_open = false }; took = []; said = rest ys }
  ending ys false = idle (record { heard = ys; is_open = true })

  abbrev pub Owed : List Y → Bool → List W → Type 0
  Owed ys true ws = ws ≡ spoken ys
  Owed ys false ws = ws ≡ answered ys

  abbrev pub Said : Line S → List W → Type 0
  Said l ws = Owed l.heard l.is_open ws

module _ (S : Speaker) (J : Judge S) where
  open S use {Y, W}
  open J use {R, judge, good, done}

  -- one symbol, and how the piece behind it ended: taken, its words come first; refused, the piece ends before it
  abbrev pub after : List Y → Y → R → Bool → Ended S J → Ended S J
  after ys y r true e = record { heard = e.heard; said = fresh S ys y ++ e.said; taken = suc e.taken; why = e.why }
  after ys y r false e = record { heard = ys; said = []; taken = 0; why = r }

  -- "symbol by symbol .., stopping at the first refusal. Earlier symbols of that piece stay taken"
  unfoldable pub walk : List Y → List Y → ℕ → Ended S J
  walk ys [] room = record { heard = ys; said = []; taken = 0; why = done }
  walk ys (z ∷ zs) room = after ys z (judge ys z room) (good (judge ys z room)) (walk (z ∷ ys) zs (room - length (fresh S ys z)))

  abbrev pub open-call : List Y → Call S → Called S
  open-call ys (piece zs room) =
      let e = walk ys zs room in
      record { line = record { heard = e.heard; is_open = true }; took = take e.taken zs; said = e.said }
  open-call ys (finish room) = ending S ys (leb (length (rest S ys)) room)
  open-call ys refused = idle S (record { heard = ys; is_open = true })

  -- a closed line does nothing any more
  abbrev pub call_at : List Y → Bool → Call S → Called S
  call_at ys true k = open-call ys k
  call_at ys false k = idle S (record { heard = ys; is_open = false })

  abbrev pub call : Line S → Call S → Called S
  call l k = call_at l.heard l.is_open k

  unfoldable pub calls : Line S → List (Call S) → Called S
  calls l [] = idle S l
  calls l (k ∷ ks) =
      let c = call l k in
      let d = calls c.line ks in
      record { line = d.line; took = c.took ++ d.took; said = c.said ++ d.said }

  abbrev pub run : List (Call S) → Called S
  run ks = calls (record { heard = []; is_open = true }) ks
