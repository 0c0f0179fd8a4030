-- Bytes that are those of codes. Assumes nothing.
use Rattle.std.proofs.Common.{◌≡◌, ℕ, Bool, true, List, get_or, Decides, is_some, Some, None, Option, sym, refl, ap, ◌∙◌, arith}
use Rattle.std.specs.List.{list_all}
use Rattle.std.proofs.lemmas.List.Elements.{All-get_or, All-from_get_or}
use Rattle.std.proofs.lemmas.List.Sums.{AllPass-from_list_all, list_all-from_AllPass}
use Rattle.codes.specs.declared.speeds.Code.{Code}
use Rattle.codes.specs.Speeds.{byte, codes, code_of}
use Rattle.codes.proofs.Numbered.{numbered_is, code_back}
use Rattle.rows.specs.WorkingOut.{Spells}

code_found : (b : ℕ) (o : Option Code) → o ≡ code_of b → is_some o ≡ true → (c : Code) × (b ≡ byte c)
code_found b None e some = absurd (let z : ◌≡◌ {A = ℕ} 0 1 = cc in omega arith)
code_found b (Some c) e some = (c, sym (numbered_is byte b codes c (sym e)))

-- a row is all codes exactly if each byte is that of one
pub spells_decided : (bytes : List ℕ) (b : Bool) → b ≡ list_all (λ n. is_some (code_of n)) bytes → Decides b (Spells 0 bytes)
spells_decided bytes b e = (
  λ all k low within. code_found (get_or bytes k 0) (code_of (get_or bytes k 0)) refl
      (All-get_or (λ n. is_some (code_of n) ≡ true) bytes k 0 within (AllPass-from_list_all (λ n. is_some (code_of n)) bytes (sym e ∙ all))),
  λ spells. e ∙ list_all-from_AllPass (λ n. is_some (code_of n)) bytes (All-from_get_or (λ n. is_some (code_of n) ≡ true) bytes 0 (λ k within.
      let (c, is) = spells k (omega arith) within in
      ap (λ n. is_some (code_of n)) is ∙ ap is_some (code_back c))),
)
