-- What the code does with one record, as functions of the judge and the lists lent. What it means is replay/specs/Meaning.
--   State, state_of j ..    a judge together with the receiver's lists and the words that are due
--   left shown given due   the words that are still due; first_due the next of them
--   answered_by j why ..    the judge after the receiver's answer; took_word j n g: after a word, where n agreed before it
--   opened s k w b         an open of the accord k; heard s k body: a symbol, in a record of kind k; finished s: a finish
--   took s r               a record: after a fault nothing is looked at
use Rattle.std.specs.Prelude.{ℕ, ◌+◌, Bool, cond, List, [], ◌∷◌, ◌++◌, eqb, length, take, drop, Option, Some, None, Result, ⊤}
use Rattle.points.specs.declared.Accord.{Accord}
use Rattle.machine.specs.declared.Core.{Core}
use Rattle.machine.specs.declared.Receiver.{Receiver}
use Rattle.reasons.specs.declared.Why.{Why}
use Rattle.reasons.specs.Reason.{given_of, is_done}
use Rattle.receiver_meaning.specs.Piece.{marked_piece}
use Rattle.openings.specs.Given.{start_at}
use Rattle.openings.specs.Opening.{opening}
use Rattle.receiver.specs.Doors.{Ran, hearing, finishing}
use Rattle.receiver.specs.Promise.{parts_of}
use Rattle.records.specs.declared.Role.{Role}
use Rattle.records.specs.declared.Role.TheVariants.{Open, Symbol, Word, Finish, Unknown}
use Rattle.records.specs.Kinds.{kind_of}
use Rattle.records.specs.Values.{Entry, accord_of, window_of, start_of, mark_in, coordinates_of, word_of}
use Rattle.records.specs.Frames.{capped}
use Rattle.replay_judge.specs.declared.Verdict.{Verdict}
use Rattle.replay_judge.specs.declared.Verdict.TheVariants.{Agree, Differs, Extra, Missing, Refused, Malformed}
use Rattle.replay_judge.specs.declared.Judge.{Judge}

-- the words that are due, and how many of them have been shown, stand beside the receiver
pub record State : Type 0 where
  pub receiver : Receiver
  pub due : List ℕ
  pub given : ℕ
  pub shown : ℕ
  pub records : ℕ
  pub verdict : Verdict

abbrev pub state_of : Judge → List ℕ → List ℕ → List ℕ → List ℕ → State
state_of j sums registers picks due =
    record {
      receiver = parts_of j.live j.core sums registers picks;
      due = due;
      given = j.given;
      shown = j.shown;
      records = j.records;
      verdict = j.verdict;
    }

unfoldable pub left : ℕ → ℕ → List ℕ → List ℕ
left shown given due = drop shown (take given due)

unfoldable pub first_due : List ℕ → Option ℕ
first_due [] = None
first_due (h ∷ hs) = Some h

-- ---- a judge with another verdict, and with one word more

abbrev pub ruled : Judge → Verdict → Judge
ruled j v = record { live = j.live; core = j.core; given = j.given; shown = j.shown; records = j.records; verdict = v }

abbrev pub showed : Judge → ℕ → Judge
showed j n =
    record {
      live = j.live;
      core = j.core;
      given = j.given;
      shown = j.shown + 1;
      records = capped (j.records + 1);
      verdict = Agree (capped (n + 1));
    }

-- after what the receiver answered: it took the record, has these numbers now and gave some words, or it refused
unfoldable pub answered_by : Judge → Result ⊤ Why → Bool → Core → ℕ → Judge
answered_by j why live core given =
    cond (is_done why)
    (record { live = live; core = core; given = given; shown = 0; records = capped (j.records + 1); verdict = j.verdict })
    (ruled j (Refused j.records (given_of why).number))

unfoldable pub took_word : Judge → ℕ → ℕ → List ℕ → Judge
took_word j n g [] = ruled j (Extra j.records g)
took_word j n g (h ∷ hs) = cond (eqb g h) (showed j n) (ruled j (Differs j.records g h))

-- ---- the same of a state

abbrev pub faulted : State → Verdict → State
faulted s v = record { receiver = s.receiver; due = s.due; given = s.given; shown = s.shown; records = s.records; verdict = v }

-- a record was taken: the receiver after it, and the words that it gave
abbrev pub went : State → Receiver → List ℕ → ℕ → State
went s rx due given = record { receiver = rx; due = due; given = given; shown = 0; records = capped (s.records + 1); verdict = s.verdict }

abbrev pub refused_by : State → Result ⊤ Why → State
refused_by s w = faulted s (Refused s.records (given_of w).number)

unfoldable pub opened : State → Accord → ℕ → ℕ → State
opened s k w b =
    let o = opening k w (start_at b) in
    cond (is_done o.why) (went s o.receiver s.due 0) (refused_by s o.why)

-- what the receiver answered to a symbol or a finish; a refusal leaves all as it was
unfoldable pub answered : State → Ran → State
answered s r = cond (is_done r.why) (went s r.receiver (r.words ++ drop (length r.words) s.due) (length r.words)) (refused_by s r.why)

-- a word that should stand here is missing
unfoldable pub unless_due : State → List ℕ → State → State
unless_due s [] n = n
unless_due s (h ∷ hs) n = faulted s (Missing s.records h)

abbrev pub left_of : State → List ℕ
left_of s = left s.shown s.given s.due

-- a symbol or a finish where no word is due
abbrev pub hears : State → ℕ → List ℕ → State
hears s k body = answered s (hearing s.receiver (marked_piece (mark_in k body ∷ []) (coordinates_of k body)) (length s.due))

abbrev pub finishes : State → State
finishes s = answered s (finishing s.receiver (length s.due))

unfoldable pub heard : State → ℕ → List ℕ → State
heard s k body = unless_due s (left_of s) (hears s k body)

unfoldable pub finished : State → State
finished s = unless_due s (left_of s) (finishes s)

-- a word agreed, after n others
abbrev pub agreed_more : State → ℕ → State
agreed_more s n =
    record {
      receiver = s.receiver;
      due = s.due;
      given = s.given;
      shown = s.shown + 1;
      records = capped (s.records + 1);
      verdict = Agree (capped (n + 1));
    }

abbrev pub worded : State → ℕ → ℕ → List ℕ → State
worded s n g [] = faulted s (Extra s.records g)
worded s n g (h ∷ hs) = cond (eqb g h) (agreed_more s n) (faulted s (Differs s.records g h))

-- a record of kind k, where n words have agreed before it
abbrev pub by_role : Role → State → ℕ → ℕ → List ℕ → State
by_role Open s n k body = opened s (accord_of k body) (window_of body) (start_of body)
by_role Symbol s n k body = heard s k body
by_role Word s n k body = worded s n (word_of body) (left_of s)
by_role Finish s n k body = finished s
by_role Unknown s n k body = s

abbrev pub upon : Verdict → State → Entry → State
upon (Agree n) s r = by_role (kind_of r.kind).role s n r.kind r.body
upon (Differs n g h) s r = s
upon (Extra n g) s r = s
upon (Missing n h) s r = s
upon (Refused n w) s r = s
upon (Malformed p) s r = s

unfoldable pub took : State → Entry → State
took s r = upon s.verdict s r
