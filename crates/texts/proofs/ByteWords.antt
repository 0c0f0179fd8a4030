-- The bytes that words write, word by word. Assumes nothing.
use Rattle.std.proofs.Common.{◌≡◌, ℕ, List, [], ◌∷◌, ◌++◌, Some, None, Option, sym, refl, ap, ◌∙◌, append_assoc, append-nil}
use Rattle.std.specs.Option.{option_map}
use Rattle.texts.specs.Numbers.{upto}
use Rattle.texts.specs.Operands.{onward, bytes_of}

-- the bytes xs before those that the words write
abbrev pub before : List ℕ → List (List ℕ) → Option (List ℕ)
before xs ws = option_map (λ bs. xs ++ bs) (bytes_of ws)

module _ (xs : List ℕ) (ws : List (List ℕ)) where
  pub before_more : (w : List ℕ) (later : List (List ℕ)) (b : ℕ) → ws ≡ w ∷ later → upto 255 w ≡ Some b → before xs ws ≡ before (xs ++ b ∷ []) later
  unfolding bytes_of
  before_more w later b e h = ap (before xs) e ∙ ap (λ o. option_map (λ bs. xs ++ bs) (onward o (λ x. option_map (λ bs. x ∷ bs) (bytes_of later)))) h ∙ go (bytes_of later)
    where
      go : (o : Option (List ℕ)) → option_map (λ bs. xs ++ bs) (option_map (λ bs. b ∷ bs) o) ≡ option_map (λ bs. (xs ++ b ∷ []) ++ bs) o
      go None = refl
      go (Some bs) = ap Some (sym (append_assoc xs (b ∷ []) bs))

  pub before_stop : (w : List ℕ) (later : List (List ℕ)) → ws ≡ w ∷ later → upto 255 w ≡ None → before xs ws ≡ None
  unfolding bytes_of
  before_stop w later e h = ap (before xs) e ∙ ap (λ o. option_map (λ bs. xs ++ bs) (onward o (λ x. option_map (λ bs. x ∷ bs) (bytes_of later)))) h

  pub before_all : ws ≡ [] → before xs ws ≡ Some xs
  unfolding bytes_of
  before_all e = ap (before xs) e ∙ ap Some (append-nil xs)

-- what the bytes of the words before and behind one come to
pub ruleset before_bytes = (before_more, before_stop, before_all)
