-- The highest row, and why a row is not lawful. Assumes nothing.
--     AtMost other row      no interval has a higher code in other than in row
--     Highest .. row        row is lawful, and no lawful row has a higher code anywhere
--     Breaks .. row j rule  interval j is the first to break a rule, and this is the first rule that it breaks
use Rattle.std.specs.Prelude.{ℕ, ◌<◌, ◌≤◌, List, slice_index_or}
use Rattle.codes.specs.declared.speeds.Speed.{Speed}
use Rattle.codes.specs.declared.speeds.Code.{Code}
use Rattle.codes.specs.declared.speeds.Code.TheVariants.{Stop}
use Rattle.codes.specs.Speeds.{byte}
use Rattle.laws.specs.Books.{Emergencies, Services}
use Rattle.rules.specs.Tracks.{Track, Mark}
use Rattle.rules.specs.Rules.{Rule, rule_number, Obeys, Allowed, code_at, Lawful}

abbrev pub AtMost : List Code → List Code → Type 0
AtMost other row = (j : ℕ) → byte (slice_index_or other j Stop) ≤ byte (slice_index_or row j Stop)

module _ (track : Track) (mark : Mark) (E : Emergencies) (D : Services) (approach : Speed) where
  pub record Highest (row : List Code) : Type 0 where
    pub lawful : Lawful track mark E D approach row
    pub highest : (other : List Code) → Lawful track mark E D approach other → AtMost other row

  pub record Breaks (row : List Code) (j : ℕ) (rule : Rule) : Type 0 where
    pub within : j ≤ mark.interval
    pub earlier : (i : ℕ) → i < j → Allowed track mark E D i (code_at approach row i) (slice_index_or row i Stop)
    pub before : (other : Rule) → rule_number other < rule_number rule → Obeys track mark E D j (code_at approach row j) (slice_index_or row j Stop) other
    pub broken : Obeys track mark E D j (code_at approach row j) (slice_index_or row j Stop) rule → ⊥
