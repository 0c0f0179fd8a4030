-- What the records of a book file say, and the bytes that say it. Assumes nothing.
--     Said              what a record says: the figure of a question in metres, or a remark
--     kind s, content s    the number and the bytes that stand for it
--     spelt s           the bytes of the whole record
--     spelling rs       the bytes of records one after the other
--     Possible s        a record can say s
--     Begins bytes s    the bytes begin with a record that says s
use Rattle.std.specs.Prelude.{◌≡◌, ℕ, ◌+◌, ◌/◌, ◌%◌, ◌<◌, List, [], ◌∷◌, ◌++◌, length, drop}
use Rattle.std.specs.List.{flat_map}
use Rattle.codes.specs.Speeds.{kmh, byte}
use Rattle.codes.specs.Gradients.{number}
use Rattle.laws.specs.Books.{Metres}
use Rattle.laws.specs.Questions.{Question, emergency, service, Asks}

pub data Said : Type 0 where
  states : Question → ℕ → Said
  remarks : List ℕ → Said

-- a number in two bytes, the low one first
abbrev pub word : ℕ → List ℕ
word n = n % 256 ∷ n / 256 ∷ []

abbrev pub kind : Said → ℕ
kind (states (emergency k from to) metres) = 1
kind (states (service k from) metres) = 2
kind (remarks bytes) = 3

abbrev pub content : Said → List ℕ
content (states (emergency k from to) metres) = number k ∷ kmh from ∷ byte to ∷ word metres
content (states (service k from) metres) = number k ∷ kmh from ∷ word metres
content (remarks bytes) = bytes

-- a length, which counts what follows it, the kind and the content
abbrev pub spelt : Said → List ℕ
spelt s = word (2 + length (content s)) ++ word (kind s) ++ content s

unfoldable pub spelling : List Said → List ℕ
spelling rs = flat_map spelt rs

-- a question that can be asked and a distance of 1 to 4,095 m, or a remark whose length two bytes can tell
abbrev pub Possible : Said → Type 0
Possible (states q metres) = Asks q × Metres metres
Possible (remarks bytes) = 2 + length bytes < 65536

pub record Begins (bytes : List ℕ) (s : Said) : Type 0 where
  pub possible : Possible s
  pub spells : bytes ≡ spelt s ++ drop (length (spelt s)) bytes
