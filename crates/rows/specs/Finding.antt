-- A row found from the mark's interval back to the start, and how far the search has come. Assumes nothing.
--     HighestAt j c w     c is the highest code that interval j may have before one with code w
--     FoundFrom n row     each interval behind the n-th has the highest code that it may have before the next
--     Reached j first     of the intervals behind the j-th those from first on are the stop ground
use Rattle.std.specs.Prelude.{◌≡◌, ℕ, suc, ◌<◌, ◌≤◌, ◌↔◌, List, length, slice_index_or}
use Rattle.codes.specs.declared.speeds.Code.{Code}
use Rattle.codes.specs.declared.speeds.Code.TheVariants.{Stop}
use Rattle.codes.specs.Speeds.{byte}
use Rattle.laws.specs.Books.{Emergencies, Services}
use Rattle.rules.specs.Tracks.{Track, Mark}
use Rattle.rules.specs.Rules.{InGround, Allowed}

module _ (track : Track) (mark : Mark) (E : Emergencies) (D : Services) where
  pub record HighestAt (j : ℕ) (c w : Code) : Type 0 where
    pub allowed : Allowed track mark E D j c w
    pub highest : (u : Code) → Allowed track mark E D j u w → byte u ≤ byte c

  pub record FoundFrom (n : ℕ) (row : List Code) : Type 0 where
    pub size : length row ≡ mark.interval
    pub each : (j : ℕ) → n ≤ j → j < mark.interval → HighestAt (suc j) (slice_index_or row j Stop) (slice_index_or row (suc j) Stop)

  pub record Reached (j first : ℕ) : Type 0 where
    pub behind : j < first
    pub within : first ≤ suc mark.interval
    pub ground : (i : ℕ) → j < i → i ≤ mark.interval → InGround track mark E D i ↔ (first ≤ i)
