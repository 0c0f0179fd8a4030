-- What the prompt train means. Assumes nothing.
--     prompt train           its five numbers
--     prompt_ranged train    they lie in their ranges
use Rattle.trains.specs.Braking.{Numbers, Ranged}
use Rattle.trains.specs.Late.{late, late_ranged}
use Rattle.trains.specs.declared.prompt.PromptTrain.{PromptTrain}

abbrev pub prompt : PromptTrain → Numbers
prompt train = late train.late

pub prompt_ranged : (train : PromptTrain) → Ranged (prompt train)
prompt_ranged train = late_ranged train.late
