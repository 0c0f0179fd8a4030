-- Texts put together. Assumes nothing.
use Rattle.std.proofs.Common.{◌≡◌, ℕ, List, [], ◌∷◌, ◌++◌, codes, decimal, sym, refl, ap, ◌∙◌, append-nil}
use Rattle.codes.specs.declared.refusals.Refusal.{Refusal}
use Rattle.codes.specs.declared.refusals.Refusal.TheVariants as refusal
use Rattle.codes.specs.declared.refusals.FileFault.TheVariants.{Torn}
use Rattle.codes.specs.declared.refusals.RecordFault.TheVariants.{Kind, Entry}
use Rattle.codes.specs.declared.refusals.BookFault.TheVariants.{Twice, Gap, Order}
use Rattle.codes.specs.declared.refusals.Rule.{Rule}
use Rattle.codes.specs.Refusals.{rule_number, notice}
use Rattle.wording.specs.Wordings.{word_of, values_text, plain_text, refusal_text}

-- only an unlawful row has values
no_values : (w : Refusal) → ((interval : ℕ) (rule : Rule) → w ≡ refusal.Unlawful interval rule → ⊥) → (notice w).1 ≡ []
no_values refusal.Full no-break = refl
no_values refusal.Length no-break = refl
no_values refusal.Doubled no-break = refl
no_values refusal.Speed no-break = refl
no_values refusal.Grade no-break = refl
no_values refusal.Stretch no-break = refl
no_values refusal.Overrun no-break = refl
no_values refusal.Absent no-break = refl
no_values refusal.Unready no-break = refl
no_values refusal.Size no-break = refl
no_values refusal.Byte no-break = refl
no_values (refusal.Unlawful interval rule) no-break = absurd (no-break interval rule refl)
no_values refusal.NoRow no-break = refl
no_values refusal.Fast no-break = refl
no_values (refusal.File Torn) no-break = refl
no_values (refusal.Record Kind) no-break = refl
no_values (refusal.Record Entry) no-break = refl
no_values (refusal.Book Twice) no-break = refl
no_values (refusal.Book Gap) no-break = refl
no_values (refusal.Book Order) no-break = refl

module _ (w : Refusal) (number : ℕ) (word : List ℕ) (numbered : number ≡ (notice w).0) (worded : word ≡ word_of w) where
  pub plain_is : ((interval : ℕ) (rule : Rule) → w ≡ refusal.Unlawful interval rule → ⊥) → plain_text number word ≡ refusal_text w
  plain_is no-break =
      (λ i. plain_text (numbered i) (worded i)) ∙ ap (plain_text (notice w).0) (sym (append-nil (word_of w)) ∙ ap (λ vs. word_of w ++ values_text vs) (sym (no_values w no-break)))

  pub valued_is : (interval n : ℕ) (rule : Rule) → w ≡ refusal.Unlawful interval rule → n ≡ rule_number rule → plain_text number (word ++ (codes " " ++ (decimal interval ++ (codes " " ++ decimal n)))) ≡ refusal_text w
  valued_is interval n rule e of =
      let end = sym (append-nil (decimal n)) in
      (λ i. plain_text (numbered i) (worded i ++ (codes " " ++ (decimal interval ++ (codes " " ++ end i)))))
      ∙ ap (λ m. plain_text (notice w).0 (word_of w ++ values_text (interval ∷ m ∷ []))) of
      ∙ ap (λ v. plain_text (notice w).0 (word_of w ++ values_text (notice v).1)) (sym e)

-- a refusal without values, and one with two
pub ruleset refusals = (plain_is, valued_is)
