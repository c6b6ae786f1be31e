-- Laws of what a line does: what a call gave, made into a note, and the request that was read.
--   front-few                  what was put at the front of a list fits it
--   idles                      an answer alone
--   ends-before, opens-first, opens_not   an opening: a further one, one that answered 0, one that is refused
--   noted-as, .., other-noted  by the kind of the request
--   noting-only                by what the request names
--   long-noted, line-noted     by the line
use Prim.Native.Nat.{ℕ, ◌+◌, ◌-◌, ◌≤◌}
use mathlib.Core.Path.{◌≡◌, refl, sym, ap, subst, ◌∙◌}
use mathlib.Core.Bool.{Bool, true, false}
use mathlib.Core.List.{List, ◌++◌}
use native.Mathlib.Omega.{arith}
use borrow.Author.Tests.{ne_eqb, lt-ltb, le-ltb}
use lib.Dec.{eqb}
use lib.ListN.{length, take, drop, length-append, length-drop, length-take}
use lib.Seq.{length-take-le}
use Rattle.points.specs.declared.Accord.{Accord}
use Rattle.machine.specs.declared.Receiver.{Receiver}
use Rattle.openings.specs.declared.Opened.{Opened}
use Rattle.openings.specs.Given.{start_at}
use Rattle.openings.specs.Opening.{Opens}
use Rattle.receiver_meaning.specs.Piece.{Piece, piece_of, marked_piece}
use Rattle.records.specs.Values.{bytes_of}
use Rattle.recorder.specs.Recorded.{open_records, opening_recorded}
use Rattle.recorder.specs.Doors.{taped_hearing, taped_finishing}
use Rattle.recorder.specs.Promise.{OpenTaped}
use Rattle.recorder.proofs.Opens.{open-space}
use Rattle.page.specs.Page.{Puts}
use Rattle.phrases.proofs.Phrases.{puts-as, nothing_put}
use Rattle.answers.specs.Answer.{number_line, unread_line}
use Rattle.requests.specs.declared.Request.{Request}
use Rattle.requests.specs.declared.Request.TheVariants as request
use Rattle.requests.specs.Named.{Named}
use Rattle.requests.specs.Verb.{Fit}
use Rattle.protocol.specs.Request.{request_of}
use Rattle.desk.specs.Room.{Long}
use Rattle.line_buffer.specs.declared.Part.{Part}
use Rattle.line_buffer.specs.Part.{Gathered}
use Rattle.line_reply.specs.Line.{named_by}
use Rattle.line_reply.proofs.Named.{cut}
use Rattle.record_text.specs.declared.Noted.{Noted}
use Rattle.record_text.specs.Note.{Note, stays, opens, taped, start_number, noting, noting_line, Notes}
use Rattle.record_text.specs.Room.{page_room, Ready}

-- what was put at the front of a list fits it
pub front-few : (ws out o : List ℕ) → o ≡ ws ++ drop (length ws) out → length o ≡ length out → length ws ≤ length out
front-few ws out o is kept =
    let a : length o ≡ length ws + (length out - length ws) = ap length is ∙ length-append ws (drop (length ws) out) ∙ rw length-drop in
    omega arith

-- ---- no call

pub idles : (rx : Receiver) (begun : Bool) (text bytes page page' : List ℕ) (at : ℕ) → at ≤ length page → Puts page 0 text at page'
    → Notes (stays rx begun text) bytes page (record { receiver = rx; begun = begun; recorded = 0; at = at; ends = false }) bytes page'
unfolding bytes_of
idles rx begun text bytes page page' at h p = record { receiver = refl; begun = refl; ends = refl; recorded = refl; bytes-are = refl; puts = p; fits = omega arith; near = h }

-- ---- an opening

module _ (rx : Receiver) (begun : Bool) (k : Accord) (w s : ℕ) (bytes page : List ℕ) where
  pub ends-before : begun ≡ true → Notes (opens rx begun k w s (length bytes)) bytes page (record { receiver = rx; begun = begun; recorded = 0; at = 0; ends = true }) bytes page
  unfolding opens bytes_of
  ends-before e = rw e (record { receiver = refl; begun = refl; ends = refl; recorded = refl; bytes-are = refl; puts = nothing_put page 0; fits = omega arith; near = omega arith })

  module _ (first : begun ≡ false) (n : ℕ) (b : List ℕ) (is : OpenTaped k w s bytes n b) (kept : length b ≡ length bytes)
      (o : Opened) (opened : Opens k w (start_at s) o) (page' : List ℕ) (at : ℕ) (h : at ≤ length page) (p : Puts page 0 (number_line n) at page') where
    abbrev left : ℕ → Bool → Noted
    left m z = record { receiver = o.receiver; begun = z; recorded = m; at = at; ends = false }

    pub opens-first : n ≡ 0 → Notes (opens rx begun k w s (length bytes)) bytes page (left 4 true) b page'
    unfolding opens
    opens-first z =
        let e : opening_recorded k w s (length bytes) ≡ 0 = sym is.number ∙ z in
        rw (first, e)
        (record {
          receiver = opened.always-receiver;
          begun = refl;
          ends = refl;
          recorded = sym (open-space k w s);
          bytes-are = rw e at is.bytes-are;
          puts = puts-as (ap number_line z) p;
          fits = omega (arith, open-space k w s, front-few (bytes_of (open_records k w s)) bytes b (rw e at is.bytes-are) kept);
          near = h;
        })

    pub opens_not : (n ≡ 0 → ⊥) → Notes (opens rx begun k w s (length bytes)) bytes page (left 0 false) b page'
    unfolding opens bytes_of
    opens_not z =
        let e : opening_recorded k w s (length bytes) ≡ n = sym is.number in
        let f : eqb n 0 ≡ false = ne_eqb n 0 z in
        rw (first, e, f)
        (record {
          receiver = opened.always-receiver;
          begun = refl;
          ends = refl;
          recorded = refl;
          bytes-are = rw (e, f) at is.bytes-are;
          puts = p;
          fits = omega arith;
          near = h;
        })

-- ---- a request

-- what each kind of request does, as the code has it: the start of a named state as its number, the output by its places
module _ (rx : Receiver) (begun : Bool) (l : Named) (room : ℕ) where
  pub noted-as : {asked k : Request} → asked ≡ k → noting rx begun k l room ≡ noting rx begun asked l room
  noted-as e = ap (λ (a : Request). noting rx begun a l room) (sym e)

  pub at-noted : {asked : Request} {k : Accord} {w s n : ℕ} → asked ≡ request.At k w s → n ≡ start_number s → opens rx begun k w n room ≡ noting rx begun asked l room
  unfolding noting
  at-noted {k = k} {w = w} e z = ap (λ (m : ℕ). opens rx begun k w m room) z ∙ noted-as e

  -- the places of an output that is lent as long as the cap says
  at_cap : (p : Piece) {cap : ℕ} → cap ≤ length l.words
      → taped begun (taped_hearing rx p (length (take cap l.words)) room) ≡ taped begun (taped_hearing rx p cap room)
  at_cap p {cap} h = ap (λ (m : ℕ). taped begun (taped_hearing rx p m room)) (length-take-le cap l.words h)

  pub piece-noted : {asked : Request} {cap n : ℕ} → asked ≡ request.Piece cap n → cap ≤ length l.words
      → taped begun (taped_hearing rx (piece_of (take n l.coordinates)) (length (take cap l.words)) room) ≡ noting rx begun asked l room
  unfolding noting
  piece-noted {n = n} e h = at_cap (piece_of (take n l.coordinates)) h ∙ noted-as e

  pub marked-noted : {asked : Request} {cap k n : ℕ} → asked ≡ request.Marked cap k n → cap ≤ length l.words
      → taped begun (taped_hearing rx (marked_piece (take k l.marks) (take n l.coordinates)) (length (take cap l.words)) room) ≡ noting rx begun asked l room
  unfolding noting
  marked-noted {k = k} {n = n} e h = at_cap (marked_piece (take k l.marks) (take n l.coordinates)) h ∙ noted-as e

  pub finish-noted : {asked : Request} {cap : ℕ} → asked ≡ request.Finish cap → cap ≤ length l.words
      → taped begun (taped_finishing rx (length (take cap l.words)) room) ≡ noting rx begun asked l room
  unfolding noting
  finish-noted {cap = cap} e h = ap (λ (m : ℕ). taped begun (taped_finishing rx m room)) (length-take-le cap l.words h) ∙ noted-as e

-- the verbs that are no receiver's
module _ (rx : Receiver) (begun : Bool) (l : Named) (room : ℕ) where
  pub other-noted : (asked : Request) → (asked ≡ request.Nothing → ⊥) → ((k : Accord) → asked ≡ request.Plain k → ⊥) → ((k : Accord) (w : ℕ) → asked ≡ request.Free k w → ⊥)
      → ((k : Accord) (w s : ℕ) → asked ≡ request.At k w s → ⊥) → ((cap n : ℕ) → asked ≡ request.Piece cap n → ⊥) → ((cap : ℕ) → asked ≡ request.Finish cap → ⊥)
      → ((cap m n : ℕ) → asked ≡ request.Marked cap m n → ⊥) → stays rx begun unread_line ≡ noting rx begun asked l room
  unfolding noting
  other-noted request.Nothing n p f a c e m = absurd (n refl)
  other-noted request.Unread n p f a c e m = refl
  other-noted (request.Sender k) n p f a c e m = refl
  other-noted (request.Send w cap) n p f a c e m = refl
  other-noted (request.Plain k) n p f a c e m = absurd (p k refl)
  other-noted (request.Free k w) n p f a c e m = absurd (f k w refl)
  other-noted (request.At k w s) n p f a c e m = absurd (a k w s refl)
  other-noted (request.Piece cap i) n p f a c e m = absurd (c cap i refl)
  other-noted (request.Finish cap) n p f a c e m = absurd (e cap refl)
  other-noted (request.Sample x y) n p f a c e m = refl
  other-noted request.Pending n p f a c e m = refl
  other-noted (request.List cap i) n p f a c e m = refl
  other-noted request.Missing n p f a c e m = refl
  other-noted (request.Marked cap k i) n p f a c e m = absurd (m cap k i refl)
  other-noted (request.Card accepted) n p f a c e m = refl

-- ---- a line

-- a request that was read into the lists can be answered
pub ready : {asked : Request} (l : Named) {l' : Named} {page : List ℕ} → Long l → page_room ≤ length page
    → length l'.coordinates ≡ length l.coordinates → length l'.words ≡ length l.words → length l'.marks ≡ length l.marks
    → Fit (length l.coordinates) asked → Ready asked l' page
ready {asked} l long p e g m f =
    record {
      long = record { coordinates-long = e ∙ long.coordinates-long; words_long = g ∙ long.words_long; marks-long = m ∙ long.marks-long };
      page-long = p;
      fit = subst (λ (n : ℕ). Fit n asked) (sym e) f;
    }

-- what a request does goes by what it names
pub noting-only : (rx : Receiver) (begun : Bool) (room : ℕ) (k : Request) (l l' : Named) → cut k l ≡ cut k l' → noting rx begun k l room ≡ noting rx begun k l' room
unfolding noting
noting-only rx begun room (request.Piece cap n) l l' e = ap (λ (c : Named). taped begun (taped_hearing rx (piece_of c.coordinates) cap room)) e
noting-only rx begun room (request.Marked cap m n) l l' e = ap (λ (c : Named). taped begun (taped_hearing rx (marked_piece c.marks c.coordinates) cap room)) e
noting-only rx begun room request.Nothing l l' e = refl
noting-only rx begun room request.Unread l l' e = refl
noting-only rx begun room (request.Sender k) l l' e = refl
noting-only rx begun room (request.Send w cap) l l' e = refl
noting-only rx begun room (request.Plain k) l l' e = refl
noting-only rx begun room (request.Free k w) l l' e = refl
noting-only rx begun room (request.At k w s) l l' e = refl
noting-only rx begun room (request.Finish cap) l l' e = refl
noting-only rx begun room (request.Sample x y) l l' e = refl
noting-only rx begun room request.Pending l l' e = refl
noting-only rx begun room (request.List cap n) l l' e = refl
noting-only rx begun room request.Missing l l' e = refl
noting-only rx begun room (request.Card accepted) l l' e = refl

module _ {line : List ℕ} {part : Part} {s : List ℕ} (g : Gathered line part s) (rx : Receiver) (begun : Bool) (room : ℕ) where
  pub long-noted : part.long ≡ true → stays rx begun unread_line ≡ noting_line (length line) rx begun s room
  unfolding noting_line
  long-noted e = sym (rw (lt-ltb (length line) (length s) (g.too_long e)))

  pub line-noted : part.long ≡ false
      → noting rx begun (request_of 4096 4096 1024 (take part.held line)) (named_by (take part.held line)) room ≡ noting_line (length line) rx begun s room
  unfolding noting_line
  line-noted f =
      let few : length s ≤ length line = omega (arith, ap length (g.kept f), length-take part.held line) in
      rw (g.kept f, le-ltb (length line) (length s) few)

pub notes-same : {g g' : Note} {bytes page : List ℕ} {r : Noted} {b page' : List ℕ} → g ≡ g' → Notes g bytes page r b page' → Notes g' bytes page r b page'
notes-same {bytes = bytes} {page = page} {r = r} {b = b} {page' = page'} e n = subst (λ (g : Note). Notes g bytes page r b page') e n
