-- Laws of a whole line: what the lists that it is read into held before makes no difference, so it is answered as its bytes alone say.
--   cut k l               what the request k names, off the lists l that start with it
--   lists, lists-long     the lists before a line is read into them, with their sizes
--   as-named              whatever goes by that alone goes by the bytes of the line alone
--   acting-only           what a request does goes by it
--   long-answered, line-answered, replied   a gathered line
use Prim.Native.Nat.{ℕ, ◌≤◌}
use mathlib.Core.Path.{◌≡◌, refl, sym, ap, subst, ◌∙◌}
use mathlib.Core.Bool.{Bool, true, false, cond}
use mathlib.Core.List.{List, [], ◌∷◌}
use Rattle.std.specs.Prelude.{Option, Some, None}
use native.Mathlib.Omega.{arith}
use borrow.Author.Tests.{lt-ltb, le-ltb}
use lib.Dec.{eqb, leb}
use lib.IntN.{ℤ, pos}
use lib.ListN.{length, get_or, take, drop, replicate, length-take, length-replicate}
use lib.Seq.{take_at, take_all}
use Rattle.text.specs.Bytes.{bytes}
use Rattle.page.specs.Page.{Puts}
use Rattle.text.specs.Token.{tokens, same_bytes}
use Rattle.text.specs.Number.{hex_of}
use Rattle.number_lists.specs.Many.{whole_in, number_in, first_of, many_of}
use Rattle.number_lists.proofs.Lists.{counted}
use Rattle.points.specs.declared.Map.{Map}
use Rattle.line_fields.specs.declared.map_names.Numbered.{Numbered}
use Rattle.line_fields.specs.Names.{map_named, numbered_of}
use Rattle.requests.specs.declared.Request.{Request}
use Rattle.requests.specs.declared.Request.TheVariants as request
use Rattle.requests.specs.Verb.{just, both, one, two, any_number, cap_number, at_start, filled_by, coordinate_fills, marked_fills, marks_after, marks_of}
use Rattle.requests.specs.Verb.{on_map, on_number, sender_of, finish_of, send_of, sample_of, start_of, window_by, open_by, open_of, receiver_of, heard_of, piece_of, sent_of, list_of}
use Rattle.requests.specs.Verb.{marked_by, marked_after, marked_of}
use Rattle.requests.proofs.Lines.{either_way}
use Rattle.protocol.specs.Request.{card_verb, sender_verb, receiver_verb, finish_verb, sample_verb, send_verb, piece_verb, list_verb, verb_of, pending_alone}
use Rattle.protocol.specs.Request.{line_of, request_of, piece_only, list_coordinates, list_words, line_fills, word_fills}
use Rattle.protocol.specs.Request.{mark_fills as mark_fills_by, coordinates_of, words_of, marks_in, Reads}
use Rattle.requests.specs.Named.{Named, named, none_named}
use Rattle.line_fields.specs.Row.{count_of, row_of, mark_fills}
use Rattle.desk.specs.declared.Desk.{Desk}
use Rattle.desk.specs.declared.Done.{Done}
use Rattle.desk.specs.Room.{Long}
use Rattle.line_reply.specs.declared.Lab.{Lab}
use Rattle.line_buffer.specs.declared.Part.{Part}
use Rattle.line_buffer.specs.Part.{Gathered, no_part}
use Rattle.answers.specs.Answer.{unread_line}
use Rattle.receiver_meaning.specs.Piece as told
use Rattle.receiver.specs.Doors.{hearing}
use Rattle.sender.specs.SendList.{sending_list}
use Rattle.desk.specs.Desk.{Result, says, lent, list_gives, ran_gives, acting, Does}
use Rattle.line_reply.specs.Line.{written, named_in, named_by, answering, Replies}
use Rattle.phrases.proofs.Phrases.{puts-as}

-- ---- what a line names

abbrev pub cut : Request → Named → Named
cut (request.Piece cap n) l = named (take n l.coordinates) [] []
cut (request.List cap n) l = named [] (take n l.words) []
cut (request.Marked cap m n) l = named (take n l.coordinates) [] (take m l.marks)
cut request.Nothing l = none_named
cut request.Unread l = none_named
cut (request.Sender k) l = none_named
cut (request.Send w cap) l = none_named
cut (request.Plain k) l = none_named
cut (request.Free k w) l = none_named
cut (request.At k w s) l = none_named
cut (request.Finish cap) l = none_named
cut (request.Sample x y) l = none_named
cut request.Pending l = none_named
cut request.Missing l = none_named
cut (request.Card accepted) l = none_named

-- the request names nothing
abbrev Same : Request → Type 0
Same k = (l l' : Named) → cut k l ≡ cut k l'

unread-same : Same request.Unread
unread-same l l' = refl

just-same : (f : ℕ → Request) → ((n : ℕ) → Same (f n)) → (o : Option ℕ) → Same (just f o)
just-same f h (Some n) = h n
just-same f h None = unread-same

both-same : (f : ℕ → ℕ → Request) → ((m n : ℕ) → Same (f m n)) → (o p : Option ℕ) → Same (both f o p)
both-same f h (Some m) p = just-same (f m) (h m) p
both-same f h None p = unread-same

one_same : (g : List ℕ → Request) → ((t : List ℕ) → Same (g t)) → (ts : List (List ℕ)) → Same (one g ts)
one_same g h [] = unread-same
one_same g h (t ∷ []) = h t
one_same g h (t ∷ t' ∷ ts) = unread-same

two-same : (g : List ℕ → List ℕ → Request) → ((t t' : List ℕ) → Same (g t t')) → (ts : List (List ℕ)) → Same (two g ts)
two-same g h [] = unread-same
two-same g h (t ∷ ts) = one_same (g t) (h t) ts

cond_same : (b : Bool) (k k' : Request) → Same k → Same k' → Same (cond b k k')
cond_same true k k' h h' = h
cond_same false k k' h h' = h'

map_same : (f : Map → Request) → ((m : Map) → Same (f m)) → (w : Option Map) → Same (on_map f w)
map_same f h (Some m) = h m
map_same f h None = unread-same

number_same : (f : Map → ℕ → Request) → ((m : Map) (n : ℕ) → Same (f m n)) → (o : Option Numbered) → Same (on_number f o)
number_same f h (Some r) = h r.map r.number
number_same f h None = unread-same

sender-same : (ts : List (List ℕ)) → Same (sender_of ts)
sender-same ts = number_same _ (λ m u l l'. refl) (numbered_of ts)

finish-same : (ts : List (List ℕ)) → Same (finish_of ts)
finish-same ts = one_same _ (λ c. just-same _ (λ n l l'. refl) (cap_number c)) ts

send-same : (ts : List (List ℕ)) → Same (send_of ts)
send-same ts = two-same _ (λ w c. both-same _ (λ m n l l'. refl) (any_number w) (cap_number c)) ts

sample-same : (ts : List (List ℕ)) → Same (sample_of ts)
sample-same [] = unread-same
sample-same (m ∷ []) = cond_same (same_bytes m (bytes "missing")) _ _ (λ l l'. refl) unread-same
sample-same (x ∷ y ∷ ts) =
    two-same (λ x y. both request.Sample (hex_of x) (hex_of y)) (λ x y. both-same request.Sample (λ m n l l'. refl) (hex_of x) (hex_of y)) (x ∷ y ∷ ts)

start-same : (u w : ℕ) (ts : List (List ℕ)) → Same (start_of u w ts)
start-same u w [] = λ l l'. refl
start-same u w (f ∷ ts) =
    cond_same (same_bytes f (bytes "free")) _ _ (map_same _ (λ m l l'. refl) (map_named ts))
    (cond_same (same_bytes f (bytes "at")) _ _ (number_same _ (λ m s l l'. refl) (numbered_of ts)) unread-same)

receiver-same : (ts : List (List ℕ)) → Same (receiver_of ts)
receiver-same [] = λ l l'. refl
receiver-same (t ∷ ts) = by (any_number t) ts where
  window : (u : ℕ) (o : Option ℕ) (ts : List (List ℕ)) → Same (window_by u o ts)
  window u (Some w) ts = start-same u w ts
  window u None ts = λ l l'. refl

  opened : (u : ℕ) (w : Option Map) (ts : List (List ℕ)) → Same (open_by u w ts)
  opened u (Some m) ts = λ l l'. refl
  opened u None [] = λ l l'. refl
  opened u None (w ∷ ts) = window u (any_number w) ts

  by : (o : Option ℕ) (ts : List (List ℕ)) → Same (open_of o ts)
  by None ts = λ l l'. refl
  by (Some u) ts = opened u (map_named ts) ts

-- the numbers at the start of a list are those that the tokens write
at-start : {A : Type 0} (p : List ℕ → Option A) (ts : List (List ℕ)) (list : List A) {n : ℕ} → many_of p (length list) ts ≡ Some n
    → take n (at_start (first_of p (length list) ts) list) ≡ take n (first_of p (length list) ts)
at-start p ts list {n} e =
    let fs = first_of p (length list) ts in
    let long : length fs ≡ n = counted p (length list) ts e in
    take_at fs (drop (length fs) list) n long ∙ sym (take_all n fs (omega arith))

-- a piece
piece-named : (o : Option ℕ) (ts : List (List ℕ)) (list : List ℤ) (ws ws' ms ms' : List ℕ)
    → let asked = heard_of o (many_of whole_in (length list) ts) in cut asked (named (coordinate_fills ts list) ws ms) ≡ cut asked (named (first_of whole_in (length list) ts) ws' ms')
piece-named None ts list ws ws' ms ms' = refl
piece-named (Some c) ts list ws ws' ms ms' = by (many_of whole_in (length list) ts) refl where
  by : (m : Option ℕ) → many_of whole_in (length list) ts ≡ m
      → cut (heard_of (Some c) m) (named (coordinate_fills ts list) ws ms) ≡ cut (heard_of (Some c) m) (named (first_of whole_in (length list) ts) ws' ms')
  by None e = refl
  by (Some n) e = rw (at-start whole_in ts list e)

-- a marked piece
marked-named : (o : Option ℕ) (row : Option (List ℕ)) (ts : List (List ℕ)) (list : List ℤ) (marks ws ws' : List ℕ)
    → let asked = marked_by o (count_of row) (many_of whole_in (length list) ts) in
    cut asked (named (coordinate_fills ts list) ws (mark_fills row marks)) ≡ cut asked (named (first_of whole_in (length list) ts) ws' (written row))
marked-named None row ts list marks ws ws' = refl
marked-named (Some c) None ts list marks ws ws' = refl
marked-named (Some c) (Some ms) ts list marks ws ws' = by (many_of whole_in (length list) ts) refl where
  by : (m : Option ℕ) → many_of whole_in (length list) ts ≡ m → let asked = marked_by (Some c) (Some (length ms)) m in
      cut asked (named (coordinate_fills ts list) ws (mark_fills (Some ms) marks)) ≡ cut asked (named (first_of whole_in (length list) ts) ws' ms)
  by None e = refl
  by (Some n) e = rw (at-start whole_in ts list e, take_at ms (drop (length ms) marks) (length ms) refl, take_all (length ms) ms (omega arith))

-- a list
list-named : (o : Option ℕ) (ts : List (List ℕ)) (words : List ℕ) (cs cs' : List ℤ) (ms ms' : List ℕ)
    → let asked = sent_of o (many_of number_in (length words) ts) in cut asked (named cs (filled_by o ts words) ms) ≡ cut asked (named cs' (first_of number_in (length words) ts) ms')
list-named None ts words cs cs' ms ms' = refl
list-named (Some c) ts words cs cs' ms ms' = by (many_of number_in (length words) ts) refl where
  fs : List ℕ
  fs = first_of number_in (length words) ts

  by : (m : Option ℕ) → many_of number_in (length words) ts ≡ m
      → cut (sent_of (Some c) m) (named cs (at_start fs words) ms) ≡ cut (sent_of (Some c) m) (named cs' fs ms')
  by None e = refl
  by (Some n) e = few (leb n 1024) where
    few : (b : Bool) → cut (cond b (request.List c n) request.Unread) (named cs (at_start fs words) ms) ≡ cut (cond b (request.List c n) request.Unread) (named cs' fs ms')
    few true = rw (at-start number_in ts words e)
    few false = refl

card-verb : (v : List ℕ) (ts : List (List ℕ)) → Same (card_verb v ts)
card-verb v ts = cond_same (same_bytes v (bytes "card")) _ _ (either_way Same (λ b l l'. refl) unread-same ts) unread-same

sender-verb : (v : List ℕ) (ts : List (List ℕ)) → Same (sender_verb v ts)
sender-verb v ts = cond_same (same_bytes v (bytes "sender")) _ _ (sender-same ts) (card-verb v ts)

receiver-verb : (v : List ℕ) (ts : List (List ℕ)) → Same (receiver_verb v ts)
receiver-verb v ts = cond_same (same_bytes v (bytes "receiver")) _ _ (receiver-same ts) (sender-verb v ts)

finish-verb : (v : List ℕ) (ts : List (List ℕ)) → Same (finish_verb v ts)
finish-verb v ts = cond_same (same_bytes v (bytes "finish")) _ _ (finish-same ts) (receiver-verb v ts)

sample-verb : (v : List ℕ) (ts : List (List ℕ)) → Same (sample_verb v ts)
sample-verb v ts = cond_same (same_bytes v (bytes "sample")) _ _ (sample-same ts) (finish-verb v ts)

send-verb : (v : List ℕ) (ts : List (List ℕ)) → Same (send_verb v ts)
send-verb v ts = cond_same (same_bytes v (bytes "send")) _ _ (send-same ts) (sample-verb v ts)

pending-alone : (v : List ℕ) → Same (pending_alone v)
pending-alone v = cond_same (same_bytes v (bytes "pending")) _ _ (λ l l'. refl) unread-same

module _ (l : Named) where
  abbrev room : ℕ
  room = length l.coordinates

  abbrev many-words : ℕ
  many-words = length l.words

  abbrev most : ℕ
  most = length l.marks

  -- a verb after `list`
  other-named : (v t : List ℕ) (ts : List (List ℕ)) (ws ws' ms ms' : List ℕ)
      → let asked = piece_verb room v (t ∷ ts) in cut asked (named (piece_only v (t ∷ ts) l.coordinates) ws ms) ≡ cut asked (named (first_of whole_in room ts) ws' ms')
  other-named v t ts ws ws' ms ms' = by (same_bytes v (bytes "piece")) where
    by : (b : Bool) → let asked = cond b (piece_of room (t ∷ ts)) (send_verb v (t ∷ ts)) in
        cut asked (named (cond b (coordinate_fills ts l.coordinates) l.coordinates) ws ms) ≡ cut asked (named (first_of whole_in room ts) ws' ms')
    by true = piece-named (cap_number t) ts l.coordinates ws ws' ms ms'
    by false = send-verb v (t ∷ ts) _ _

  -- a verb after `marked`
  later-named : (v t : List ℕ) (ts : List (List ℕ)) (ms ms' : List ℕ) → let asked = list_verb room many-words v (t ∷ ts) in
      cut asked (named (list_coordinates v (t ∷ ts) l.coordinates) (list_words v (t ∷ ts) l.words) ms)
      ≡ cut asked (named (first_of whole_in room ts) (first_of number_in many-words ts) ms')
  later-named v t ts ms ms' = by (same_bytes v (bytes "list")) where
    by : (b : Bool) → let asked = cond b (list_of many-words (t ∷ ts)) (piece_verb room v (t ∷ ts)) in
        cut asked (named (cond b l.coordinates (piece_only v (t ∷ ts) l.coordinates)) (cond b (filled_by (cap_number t) ts l.words) l.words) ms)
        ≡ cut asked (named (first_of whole_in room ts) (first_of number_in many-words ts) ms')
    by true = list-named (cap_number t) ts l.words _ _ ms ms'
    by false = other-named v t ts _ _ ms ms'

  -- a marked piece, by the tokens after its cap
  after-cap : (t : List ℕ) (ts : List (List ℕ)) (ws ws' : List ℕ) → let asked = marked_after room most (cap_number t) ts in
      cut asked (named (coordinate_fills (drop 1 ts) l.coordinates) ws (marks_after ts l.marks))
      ≡ cut asked (named (first_of whole_in room (drop 1 ts)) ws' (written (row_of most (get_or ts 0 []))))
  after-cap t [] ws ws' = refl
  after-cap t (r ∷ ts) ws ws' = marked-named (cap_number t) (row_of most r) ts l.coordinates l.marks ws ws'

  line-named : (ts : List (List ℕ)) → cut (line_of room many-words most ts) (named (line_fills ts l.coordinates) (word_fills ts l.words) (mark_fills_by ts l.marks))
      ≡ cut (line_of room many-words most ts) (named_in room many-words most ts)
  unfolding verb_of
  line-named [] = refl
  line-named (v ∷ []) = pending-alone v _ _
  line-named (v ∷ t ∷ ts) = by (same_bytes v (bytes "marked")) where
    rest : List (List ℕ)
    rest = t ∷ ts

    by : (b : Bool) → let asked = cond b (marked_of room most rest) (list_verb room many-words v rest) in
        cut asked (named (cond b (marked_fills rest l.coordinates) (list_coordinates v rest l.coordinates))
        (cond b l.words (list_words v rest l.words)) (cond b (marks_of rest l.marks) l.marks))
        ≡ cut asked (named (first_of whole_in room (drop (cond b 3 2) (v ∷ rest))) (first_of number_in many-words ts) (written (row_of most (get_or ts 0 []))))
    by true = after-cap t ts _ _
    by false = later-named v t ts _ _

  -- what a line of which s are the bytes does with lists that held l
  abbrev filled : List ℕ → Named
  filled s = named (coordinates_of s l.coordinates) (words_of s l.words) (marks_in s l.marks)

  by-lists : (s : List ℕ) → cut (request_of room many-words most s) (filled s) ≡ cut (request_of room many-words most s) (named_in room many-words most (tokens s))
  unfolding request_of coordinates_of words_of marks_in
  by-lists [] = refl
  by-lists (b ∷ s) = by (eqb b 35) where
    ts : List (List ℕ)
    ts = tokens (b ∷ s)

    by : (t : Bool) → let asked = cond t request.Nothing (line_of room many-words most ts) in
        cut asked (named (cond t l.coordinates (line_fills ts l.coordinates)) (cond t l.words (word_fills ts l.words)) (cond t l.marks (mark_fills_by ts l.marks)))
        ≡ cut asked (named_in room many-words most ts)
    by true = refl
    by false = line-named ts

-- the lists before the line is read into them
abbrev pub lists : Named
lists = named (replicate 4096 (pos 0)) (replicate 4096 0) (replicate 1024 0)

pub lists-long : Long lists
lists-long = record { coordinates-long = length-replicate {A = ℤ} 4096 (pos 0); words_long = length-replicate {A = ℕ} 4096 0; marks-long = length-replicate {A = ℕ} 1024 0 }

-- what goes by the request and by what it names
module _ {R : Type 0} (f : Request → Named → R) (only : (k : Request) (l l' : Named) → cut k l ≡ cut k l' → f k l ≡ f k l') where
  pub as-named : {s : List ℕ} {l l' : Named} {asked : Request} → Long l → Reads s l asked l' → f asked l' ≡ f (request_of 4096 4096 1024 s) (named_by s)
  as-named {s} {l} h r =
      (λ i. f (r.is i) (named (r.fills i) (r.puts i) (r.marks i)))
      ∙ only _ _ _ (by-lists l s)
      ∙ (λ i. f (request_of (h.coordinates-long i) (h.words_long i) (h.marks-long i) s) (named_in (h.coordinates-long i) (h.words_long i) (h.marks-long i) (tokens s)))

-- what a request does
pub acting-only : (d : Desk) (k : Request) (l l' : Named) → cut k l ≡ cut k l' → acting d k l ≡ acting d k l'
unfolding acting
acting-only d (request.Piece cap n) l l' e = ap (λ (c : Named). ran_gives d (hearing d.receiver (told.piece_of c.coordinates) cap)) e
acting-only d (request.List cap n) l l' e = ap (λ (c : Named). list_gives d (sending_list d.sender c.words (lent cap))) e
acting-only d (request.Marked cap m n) l l' e = ap (λ (c : Named). ran_gives d (hearing d.receiver (told.marked_piece c.marks c.coordinates) cap)) e
acting-only d request.Nothing l l' e = refl
acting-only d request.Unread l l' e = refl
acting-only d (request.Sender k) l l' e = refl
acting-only d (request.Send w cap) l l' e = refl
acting-only d (request.Plain k) l l' e = refl
acting-only d (request.Free k w) l l' e = refl
acting-only d (request.At k w s) l l' e = refl
acting-only d (request.Finish cap) l l' e = refl
acting-only d (request.Sample x y) l l' e = refl
acting-only d request.Pending l l' e = refl
acting-only d request.Missing l l' e = refl
acting-only d (request.Card accepted) l l' e = refl

pub obeyed : {g g' : Result} {most : ℕ} {page : List ℕ} {at : ℕ} {r : Done} {page' : List ℕ} → g ≡ g' → Does g most page at r page' → Does g' most page at r page'
obeyed {most = most} {page = page} {at = at} {r = r} {page' = page'} e d = subst (λ (g : Result). Does g most page at r page') e d

-- ---- a gathered line

module _ {line : List ℕ} {part : Part} {s : List ℕ} (g : Gathered line part s) (d : Desk) where
  pub long-answered : part.long ≡ true → says d unread_line ≡ answering (length line) d s
  unfolding answering
  long-answered e = sym (rw (lt-ltb (length line) (length s) (g.too_long e)))

  pub line-answered : part.long ≡ false → acting d (request_of 4096 4096 1024 (take part.held line)) (named_by (take part.held line)) ≡ answering (length line) d s
  unfolding answering
  line-answered f =
      let few : length s ≤ length line = omega (arith, ap length (g.kept f), length-take part.held line) in
      rw (g.kept f, le-ltb (length line) (length s) few)

pub replied : {g g' : Result} {lab : Lab} {page : List ℕ} {r : Lab} {page' : List ℕ} → r.desk ≡ g.desk → Puts page lab.at g.text r.at page' → g ≡ g'
    → r.part ≡ no_part → r.on ≡ lab.on → Replies g' lab page r page'
replied d p e f o = record { desk = d ∙ ap (λ (x : Result). x.desk) e; puts = puts-as (ap (λ (x : Result). x.text) e) p; part = f; on = o }
