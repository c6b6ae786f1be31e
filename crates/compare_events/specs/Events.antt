-- What two fronts tell, as a function. What it means is compare/specs/Differences.
--   judge a b same n k    n being the number of the records there and k the lines so far
use Rattle.std.specs.Prelude.{ℕ, Bool, cond}
use Rattle.record_front.specs.declared.Sign.{Sign}
use Rattle.record_front.specs.declared.Sign.TheVariants as sign
use Rattle.compare_events.specs.declared.Line.TheVariants.{Differs, OnlyFirst, OnlySecond, Differences}
use Rattle.compare_events.specs.declared.Event.{Event}
use Rattle.compare_events.specs.declared.Event.TheVariants.{Same, Said, Last, Wait, Broken}

abbrev pub judge : Sign → Sign → Bool → ℕ → ℕ → Event
judge sign.Record sign.Record b n k = cond b Same (Said (Differs n))
judge sign.Record sign.Gone b n k = Said (OnlyFirst n)
judge sign.Record sign.More b n k = Wait
judge sign.Record sign.Bad b n k = Broken
judge sign.Gone sign.Record b n k = Said (OnlySecond n)
judge sign.Gone sign.Gone b n k = Last (Differences k)
judge sign.Gone sign.More b n k = Wait
judge sign.Gone sign.Bad b n k = Broken
judge sign.More sign.Record b n k = Wait
judge sign.More sign.Gone b n k = Wait
judge sign.More sign.More b n k = Wait
judge sign.More sign.Bad b n k = Broken
judge sign.Bad s b n k = Broken
