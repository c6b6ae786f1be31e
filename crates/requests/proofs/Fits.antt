-- What the tokens after a verb ask for is fit: the outputs that it names have 4096 places at most, and its coordinates are in the list.
use Prim.Native.Nat.{ℕ, ◌≤◌}
use mathlib.Core.Path.{◌≡◌, refl}
use mathlib.Core.Bool.{Bool, true, false, cond}
use mathlib.Core.List.{List, [], ◌∷◌}
use borrow.Author.Tests.{leb-true}
use lib.Dec.{leb}
use Rattle.text.specs.Bytes.{bytes}
use Rattle.text.specs.Token.{same_bytes}
use Rattle.text.specs.Number.{hex_of}
use Rattle.number_lists.specs.Many.{whole_in, number_in, many_of}
use Rattle.text.proofs.Digits.{got-most}
use Rattle.line_fields.specs.Row.{count_of, row_of}
use Rattle.line_fields.proofs.Rows.{row-most}
use Rattle.number_lists.proofs.Lists.{many-most}
use Rattle.points.specs.declared.Map.{Map}
use Rattle.line_fields.specs.declared.map_names.Numbered.{Numbered}
use Rattle.line_fields.specs.Names.{map_named, numbered_of}
use Rattle.std.specs.Prelude.{Option, Some, None}
use Rattle.requests.specs.declared.Request.{Request}
use Rattle.requests.specs.declared.Request.TheVariants as request
use Rattle.requests.specs.Verb.{any_number, cap_number, just, both, one, two, on_map, on_number, Fit}
use Rattle.requests.specs.Verb.{sender_of, finish_of, send_of, sample_of, start_of, window_by, window_of, open_by, open_of, receiver_of, heard_of, piece_of, marked_by, marked_of, sent_of, list_of}

module _ (room : ℕ) where
  pub fit-cond : (b : Bool) {x y : Request} → Fit room x → Fit room y → Fit room (cond b x y)
  fit-cond true f g = f
  fit-cond false f g = g

  fit-just : (f : ℕ → Request) (o : Option ℕ) → ((n : ℕ) → Some n ≡ o → Fit room (f n)) → Fit room (just f o)
  fit-just f (Some n) g = g n refl
  fit-just f None g = record { sizes = tt }

  fit-both : (f : ℕ → ℕ → Request) (o o' : Option ℕ) → ((m n : ℕ) → Some n ≡ o' → Fit room (f m n)) → Fit room (both f o o')
  fit-both f (Some m) o' g = fit-just (f m) o' (g m)
  fit-both f None o' g = record { sizes = tt }

  fit-one : (g : List ℕ → Request) (ts : List (List ℕ)) → ((t : List ℕ) → Fit room (g t)) → Fit room (one g ts)
  fit-one g [] f = record { sizes = tt }
  fit-one g (t ∷ []) f = f t
  fit-one g (t ∷ t' ∷ ts) f = record { sizes = tt }

  fit-two : (g : List ℕ → List ℕ → Request) (ts : List (List ℕ)) → ((t t' : List ℕ) → Fit room (g t t')) → Fit room (two g ts)
  fit-two g [] f = record { sizes = tt }
  fit-two g (t ∷ ts) f = fit-one (g t) ts (f t)

  fit-map : (f : Map → Request) (w : Option Map) → ((m : Map) → Fit room (f m)) → Fit room (on_map f w)
  fit-map f (Some m) g = g m
  fit-map f None g = record { sizes = tt }

  fit-number : (f : Map → ℕ → Request) (o : Option Numbered) → ((m : Map) (n : ℕ) → Fit room (f m n)) → Fit room (on_number f o)
  fit-number f (Some r) g = g r.map r.number
  fit-number f None g = record { sizes = tt }

  pub fit-sender : (ts : List (List ℕ)) → Fit room (sender_of ts)
  fit-sender ts = fit-number _ (numbered_of ts) (λ m u. record { sizes = tt })

  pub fit-finish : (ts : List (List ℕ)) → Fit room (finish_of ts)
  fit-finish ts = fit-one (λ c. just request.Finish (cap_number c)) ts (λ c. fit-just request.Finish (cap_number c) (λ n e. record { sizes = got-most 10 4096 c e }))

  pub fit-sample : (ts : List (List ℕ)) → Fit room (sample_of ts)
  fit-sample [] = record { sizes = tt }
  fit-sample (m ∷ []) = fit-cond (same_bytes m (bytes "missing")) (record { sizes = tt }) (record { sizes = tt })
  fit-sample (x ∷ y ∷ ts) = fit-two _ (x ∷ y ∷ ts) (λ x y. fit-both request.Sample (hex_of x) (hex_of y) (λ m n e. record { sizes = tt }))

  pub fit-send : (ts : List (List ℕ)) → Fit room (send_of ts)
  fit-send ts = fit-two (λ w c. both request.Send (any_number w) (cap_number c)) ts (λ w c. fit-both request.Send (any_number w) (cap_number c) (λ m n e. record { sizes = got-most 10 4096 c e }))

  fit-start : (u w : ℕ) (ts : List (List ℕ)) → Fit room (start_of u w ts)
  fit-start u w [] = record { sizes = tt }
  fit-start u w (f ∷ ts) =
      fit-cond (same_bytes f (bytes "free")) (fit-map _ (map_named ts) (λ m. record { sizes = tt }))
      (fit-cond (same_bytes f (bytes "at")) (fit-number _ (numbered_of ts) (λ m s. record { sizes = tt })) (record { sizes = tt }))

  fit-window-by : (u : ℕ) (o : Option ℕ) (ts : List (List ℕ)) → Fit room (window_by u o ts)
  fit-window-by u (Some w) ts = fit-start u w ts
  fit-window-by u None ts = record { sizes = tt }

  fit-window : (u : ℕ) (ts : List (List ℕ)) → Fit room (window_of u ts)
  fit-window u [] = record { sizes = tt }
  fit-window u (w ∷ ts) = fit-window-by u (any_number w) ts

  fit-open-by : (u : ℕ) (w : Option Map) (ts : List (List ℕ)) → Fit room (open_by u w ts)
  fit-open-by u (Some m) ts = record { sizes = tt }
  fit-open-by u None ts = fit-window u ts

  fit-open : (o : Option ℕ) (ts : List (List ℕ)) → Fit room (open_of o ts)
  fit-open None ts = record { sizes = tt }
  fit-open (Some u) ts = fit-open-by u (map_named ts) ts

  pub fit-receiver : (ts : List (List ℕ)) → Fit room (receiver_of ts)
  fit-receiver [] = record { sizes = tt }
  fit-receiver (u ∷ ts) = fit-open (any_number u) ts

  fit-heard : (o : Option ℕ) (m : Option ℕ) → ((c : ℕ) → Some c ≡ o → c ≤ 4096) → ((n : ℕ) → Some n ≡ m → n ≤ room) → Fit room (heard_of o m)
  fit-heard None m f g = record { sizes = tt }
  fit-heard (Some c) (Some n) f g = record { sizes = (f c refl, g n refl) }
  fit-heard (Some c) None f g = record { sizes = tt }

  pub fit-piece : (ts : List (List ℕ)) → Fit room (piece_of room ts)
  fit-piece [] = record { sizes = tt }
  fit-piece (c ∷ ts) = fit-heard (cap_number c) (many_of whole_in room ts) (λ n e. got-most 10 4096 c e) (λ n e. many-most whole_in room ts e)

  fit-marked-by : (o : Option ℕ) (k m : Option ℕ) → ((c : ℕ) → Some c ≡ o → c ≤ 4096) → ((n : ℕ) → Some n ≡ k → n ≤ 1024) → ((n : ℕ) → Some n ≡ m → n ≤ room) → Fit room (marked_by o k m)
  fit-marked-by (Some c) (Some k) (Some n) f g h = record { sizes = (f c refl, g k refl, h n refl) }
  fit-marked-by (Some c) (Some k) None f g h = record { sizes = tt }
  fit-marked-by (Some c) None m f g h = record { sizes = tt }
  fit-marked-by None k m f g h = record { sizes = tt }

  pub fit-marked : (most : ℕ) (ts : List (List ℕ)) → Fit room (marked_of room most ts)
  fit-marked most [] = record { sizes = tt }
  fit-marked most (c ∷ []) = record { sizes = tt }
  fit-marked most (c ∷ r ∷ ts) =
      fit-marked-by (cap_number c) (count_of (row_of most r)) (many_of whole_in room ts) (λ n e. got-most 10 4096 c e) (λ n e. row-most most r e) (λ n e. many-most whole_in room ts e)

  fit-sent : (o : Option ℕ) (m : Option ℕ) → ((c : ℕ) → Some c ≡ o → c ≤ 4096) → Fit room (sent_of o m)
  fit-sent None m f = record { sizes = tt }
  fit-sent (Some c) (Some n) f = go (leb n 1024) refl
    where
      go : (b : Bool) → leb n 1024 ≡ b → Fit room (cond b (request.List c n) request.Unread)
      go true e = record { sizes = (f c refl, leb-true n 1024 e) }
      go false e = record { sizes = tt }
  fit-sent (Some c) None f = record { sizes = tt }

  pub fit-list : (many : ℕ) (ts : List (List ℕ)) → Fit room (list_of many ts)
  fit-list many [] = record { sizes = tt }
  fit-list many (c ∷ ts) = fit-sent (cap_number c) (many_of number_in many ts) (λ n e. got-most 10 4096 c e)
