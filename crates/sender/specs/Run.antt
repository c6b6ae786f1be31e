-- Runs of calls: any results that the sender's promises allow, one after the other, whichever calls are refused. That the symbols
-- of a run are an allowed sequence from state 0 with the words' parts is proved in proofs/Run.
--   Made u q n c     the symbol c has the parts of the word n, where the turn before it is q
--   AllMade u q      the same for words and symbols in the order of time
--   coordinates_of k  the coordinates of symbols on a line of the accord k, four for each
--   Talk k ws ps s   a sender of the accord k accepted the words ws and wrote the coordinates ps for them, and is now s
--   Ran k ws ps      there are such symbols: an allowed sequence from state 0
use Rattle.std.specs.Prelude.{ℕ, ◌*◌, ◌≡◌, List, [], ◌∷◌, ◌++◌, ℤ, take}
use Rattle.wei.specs.Word.{unpacked}
use Rattle.wei.specs.Label.{turn_on}
use Rattle.wei.specs.Symbol.{Symbol, first_label, AllowedFrom, symbols_from}
use Rattle.points.specs.declared.Accord.{Accord}
use Rattle.sender.specs.declared.Sender.{Sender}
use Rattle.sender.specs.declared.Sent.{Sent}
use Rattle.sender.specs.declared.SentList.{SentList}
use Rattle.sender.specs.Send.{number_of, four}
use Rattle.sender.specs.Promise.{Opens, Sends, SendsList}

pub record Made (u q n : ℕ) (c : Symbol) : Type 0 where
  pub i1 : c.i1 ≡ (unpacked u n).i1
  pub turn : first_label c ≡ turn_on q (unpacked u n).i2 (unpacked u n).i3
  pub w1 : c.w1 ≡ (unpacked u n).w1
  pub w2 : c.w2 ≡ (unpacked u n).w2

abbrev pub AllMade : ℕ → ℕ → List ℕ → List Symbol → Type 0
AllMade u q [] [] = Unit {0}
AllMade u q [] (c ∷ cs) = ⊥
AllMade u q (n ∷ ns) [] = ⊥
AllMade u q (n ∷ ns) (c ∷ cs) = Made u q n c × AllMade u (first_label c) ns cs

abbrev pub coordinates_of : Accord → List Symbol → List ℤ
coordinates_of k [] = []
coordinates_of k (c ∷ cs) = four k c ++ coordinates_of k cs

pub data Talk (k : Accord) : List ℕ → List ℤ → Sender → Type 0 where
  opens : (r : Sent) → Opens k r → number_of r.why ≡ 0 → Talk k [] [] r.sender
  takes : {ws : List ℕ} {ps : List ℤ} {s : Sender} → Talk k ws ps s → (n : ℕ) (out o : List ℤ) (r : Sent) → Sends s n out r o → number_of r.why ≡ 0 →
      Talk k (ws ++ (n ∷ [])) (ps ++ take 4 o) r.sender
  refuses : {ws : List ℕ} {ps : List ℤ} {s : Sender} → Talk k ws ps s → (n : ℕ) (out o : List ℤ) (r : Sent) → Sends s n out r o → (number_of r.why ≡ 0 → ⊥) →
      Talk k ws ps r.sender
  lists : {ws : List ℕ} {ps : List ℤ} {s : Sender} → Talk k ws ps s → (ns : List ℕ) (out o : List ℤ) (r : SentList) → SendsList s ns out r o →
      Talk k (ws ++ take r.sent ns) (ps ++ take (4 * r.sent) o) r.sender

pub record Ran (k : Accord) (ws : List ℕ) (ps : List ℤ) : Type 0 where
  pub symbols : List Symbol
  pub are : symbols ≡ symbols_from k.u 0 0 ws
  pub made : AllMade k.u 0 ws symbols
  pub allowed : AllowedFrom k.u 0 symbols
  pub written : ps ≡ coordinates_of k symbols
