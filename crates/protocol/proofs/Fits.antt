-- Every request that a line asks for is fit: the outputs that it names have 4096 places at most, and its coordinates are in the list.
use Prim.Native.Nat.{ℕ}
use mathlib.Core.List.{List, [], ◌∷◌}
use lib.Dec.{eqb}
use Rattle.text.specs.Bytes.{bytes}
use Rattle.text.specs.Token.{tokens, same_bytes}
use Rattle.requests.specs.Verb.{Fit}
use Rattle.requests.proofs.Fits.{fit-cond, fit-sender, fit-receiver, fit-finish, fit-sample, fit-send, fit-piece, fit-marked, fit-list}
use Rattle.requests.proofs.Lines.{either_way}
use Rattle.protocol.specs.Request.{card_verb, sender_verb, receiver_verb, finish_verb, sample_verb, send_verb, piece_verb, list_verb, verb_of, line_of, request_of}

module _ (room : ℕ) where
  card-verb : (v : List ℕ) (ts : List (List ℕ)) → Fit room (card_verb v ts)
  card-verb v ts = fit-cond room (same_bytes v (bytes "card")) (either_way (Fit room) (λ b. record { sizes = tt }) (record { sizes = tt }) ts) (record { sizes = tt })

  sender-verb : (v : List ℕ) (ts : List (List ℕ)) → Fit room (sender_verb v ts)
  sender-verb v ts = fit-cond room (same_bytes v (bytes "sender")) (fit-sender room ts) (card-verb v ts)

  receiver-verb : (v : List ℕ) (ts : List (List ℕ)) → Fit room (receiver_verb v ts)
  receiver-verb v ts = fit-cond room (same_bytes v (bytes "receiver")) (fit-receiver room ts) (sender-verb v ts)

  finish-verb : (v : List ℕ) (ts : List (List ℕ)) → Fit room (finish_verb v ts)
  finish-verb v ts = fit-cond room (same_bytes v (bytes "finish")) (fit-finish room ts) (receiver-verb v ts)

  sample-verb : (v : List ℕ) (ts : List (List ℕ)) → Fit room (sample_verb v ts)
  sample-verb v ts = fit-cond room (same_bytes v (bytes "sample")) (fit-sample room ts) (finish-verb v ts)

  send-verb : (v : List ℕ) (ts : List (List ℕ)) → Fit room (send_verb v ts)
  send-verb v ts = fit-cond room (same_bytes v (bytes "send")) (fit-send room ts) (sample-verb v ts)

  piece-verb : (v : List ℕ) (ts : List (List ℕ)) → Fit room (piece_verb room v ts)
  piece-verb v ts = fit-cond room (same_bytes v (bytes "piece")) (fit-piece room ts) (send-verb v ts)

  module _ (many most : ℕ) where
    list-verb : (v : List ℕ) (ts : List (List ℕ)) → Fit room (list_verb room many v ts)
    list-verb v ts = fit-cond room (same_bytes v (bytes "list")) (fit-list room many ts) (piece-verb v ts)

    fit-verb : (v : List ℕ) (ts : List (List ℕ)) → Fit room (verb_of room many most v ts)
    unfolding verb_of
    fit-verb v ts = fit-cond room (same_bytes v (bytes "marked")) (fit-marked room most ts) (list-verb v ts)

    fit_line : (ts : List (List ℕ)) → Fit room (line_of room many most ts)
    fit_line [] = record { sizes = tt }
    fit_line (v ∷ []) = fit-cond room (same_bytes v (bytes "pending")) (record { sizes = tt }) (record { sizes = tt })
    fit_line (v ∷ t ∷ ts) = fit-verb v (t ∷ ts)

    pub fits : (s : List ℕ) → Fit room (request_of room many most s)
    unfolding request_of
    fits [] = record { sizes = tt }
    fits (b ∷ s) = fit-cond room (eqb b 35) (record { sizes = tt }) (fit_line (tokens (b ∷ s)))
