-- The pieces that a text is cut into, and the front of it. Assumes nothing.
use Rattle.std.proofs.Common.{◌≡◌, ℕ, ◌+◌, ◌<◌, ◌≤◌, suc, Bool, true, false, cond, not, List, [], ◌∷◌, ◌++◌, length, take, drop, sym, refl, ap, ◌∙◌, append-nil, arith, take-append-drop, drop-drop, length-drop, length-take, subst}
use Rattle.std.proofs.lemmas.Grind.{common_steps}
use Rattle.std.proofs.lemmas.List.Sums.{prefix_len-le-length}
use Rattle.std.specs.List.{position, position_or_len, before_first, after_first, slice_split, onto_first}
use Rattle.std.specs.Option.{unwrap_or}
use Rattle.texts.specs.declared.cuts.Separator.TheVariants.{LineFeed}
use Rattle.texts.specs.Cuts.{is_blank, separates, skip_blanks, filled, ended, words_in, lines_in}

module _ (p : ℕ → Bool) where
  pub position_is : (bs : List ℕ) → unwrap_or (position p bs) (length bs) ≡ position_or_len p bs
  position_is bs = grind (arith, common_steps, prefix_len-le-length)

  -- the pieces behind the first
  abbrev later : List ℕ → List (List ℕ)
  later [] = []
  later (b ∷ bs) = slice_split p bs

  abbrev left : List ℕ → List ℕ
  left bs = drop (position_or_len p bs) bs

  pieces_front : (bs : List ℕ) → slice_split p bs ≡ before_first p bs ∷ later (left bs)
  pieces_front [] = refl
  pieces_front (b ∷ bs) = go (p b) (pieces_front bs)
    where
      go : (t : Bool) → slice_split p bs ≡ before_first p bs ∷ later (left bs) → cond t ([] ∷ slice_split p bs) (onto_first b (slice_split p bs)) ≡ take (cond (not t) (1 + position_or_len p bs) 0) (b ∷ bs) ∷ later (drop (cond (not t) (1 + position_or_len p bs) 0) (b ∷ bs))
      go true e = refl
      go false e =
          let one_more : suc (position_or_len p bs) ≡ 1 + position_or_len p bs = omega arith in
          ap (onto_first b) e ∙ ap (λ n. take n (b ∷ bs) ∷ later (drop n (b ∷ bs))) one_more

  -- the pieces behind the first, where empty pieces do not count
  filled_later : (bs : List ℕ) → filled (later bs) ≡ filled (slice_split p (drop 1 bs))
  unfolding filled
  filled_later [] = refl
  filled_later (b ∷ bs) = refl

  filled_cons : (w : List ℕ) (ws : List (List ℕ)) → 0 < length w → filled (w ∷ ws) ≡ w ∷ filled ws
  unfolding filled
  filled_cons [] ws h = absurd (omega arith)
  filled_cons (b ∷ w) ws h = refl

  -- a front that is not empty is the first of the filled pieces
  pub filled_front : (bs : List ℕ) → 0 < length (before_first p bs) → filled (slice_split p bs) ≡ before_first p bs ∷ filled (slice_split p (after_first p bs))
  filled_front bs h = ap filled (pieces_front bs) ∙ filled_cons _ _ h ∙ ap (λ ws. before_first p bs ∷ ws) (filled_later (left bs) ∙ ap (λ l. filled (slice_split p l)) (drop-drop 1 (position_or_len p bs) bs))

  ended_last : (w : List ℕ) → 0 < length w → ended (w ∷ []) ≡ w ∷ []
  unfolding ended
  ended_last [] h = absurd (omega arith)
  ended_last (b ∷ w) h = refl

  ended_more : (w : List ℕ) (bs : List ℕ) → ended (w ∷ slice_split p bs) ≡ w ∷ ended (slice_split p bs)
  unfolding ended
  ended_more w bs = rw (pieces_front bs) refl

  -- a text that is not empty begins with a line, its front, and goes on behind the separator
  pub ended_front : (bs : List ℕ) → 0 < length bs → ended (slice_split p bs) ≡ before_first p bs ∷ ended (slice_split p (after_first p bs))
  unfolding ended
  ended_front bs h = ap ended (pieces_front bs) ∙ go (left bs) refl ∙ ap (λ l. before_first p bs ∷ ended (slice_split p l)) (drop-drop 1 (position_or_len p bs) bs)
    where
      last : left bs ≡ [] → bs ≡ before_first p bs
      last e = sym (take-append-drop (position_or_len p bs) bs) ∙ ap (λ l. before_first p bs ++ l) e ∙ append-nil _

      go : (l : List ℕ) → left bs ≡ l → ended (before_first p bs ∷ later l) ≡ before_first p bs ∷ ended (slice_split p (drop 1 l))
      go [] e = ended_last (before_first p bs) (omega (arith, ap length (last e)))
      go (b ∷ l) e = ended_more (before_first p bs) l

-- a byte at the front of the first line makes no more than one line more
ended_onto : (b : ℕ) (ws : List (List ℕ)) → length (ended (onto_first b ws)) ≤ 1 + length (ended ws)
unfolding ended
ended_onto b [] = omega arith
ended_onto b ([] ∷ []) = omega arith
ended_onto b ((c ∷ w) ∷ []) = omega arith
ended_onto b ([] ∷ (v ∷ ws)) = omega arith
ended_onto b ((c ∷ w) ∷ (v ∷ ws)) = omega arith

pub lines_few : (bs : List ℕ) → length (lines_in bs) ≤ length bs
unfolding ended
lines_few [] = omega arith
lines_few (b ∷ bs) = go (separates LineFeed b) (lines_few bs)
  where
    go : (t : Bool) → length (lines_in bs) ≤ length bs → length (ended (cond t ([] ∷ slice_split (separates LineFeed) bs) (onto_first b (slice_split (separates LineFeed) bs)))) ≤ length (b ∷ bs)
    go true h = omega (arith, ap length (ended_more (separates LineFeed) [] bs))
    go false h = omega (arith, ended_onto b (slice_split (separates LineFeed) bs))

pub words_none : (bs : List ℕ) → length bs ≡ 0 → words_in bs ≡ []
unfolding filled
words_none [] e = refl
words_none (b ∷ bs) e = absurd (omega arith)

pub lines_none : (bs : List ℕ) → length bs ≡ 0 → lines_in bs ≡ []
unfolding ended
lines_none [] e = refl
lines_none (b ∷ bs) e = absurd (omega arith)

-- blanks at the front of a text make no word
words_skip : (bs : List ℕ) → words_in (skip_blanks bs) ≡ words_in bs
unfolding filled
words_skip [] = refl
words_skip (b ∷ bs) = go (is_blank b) refl (words_skip bs)
  where
    blanks : ℕ
    blanks = position_or_len (λ b. not (is_blank b)) bs

    go : (t : Bool) → is_blank b ≡ t → words_in (skip_blanks bs) ≡ words_in bs → filled (slice_split is_blank (drop (cond (not (not t)) (1 + position_or_len (λ b. not (is_blank b)) bs) 0) (b ∷ bs))) ≡ filled (cond t ([] ∷ slice_split is_blank bs) (onto_first b (slice_split is_blank bs)))
    go true h e =
        let one_more : 1 + position_or_len (λ b. not (is_blank b)) bs ≡ suc (position_or_len (λ b. not (is_blank b)) bs) = omega arith in
        ap (λ n. filled (slice_split is_blank (drop n (b ∷ bs)))) one_more ∙ e
    go false h e = rw h refl

pub some_word : (bs : List ℕ) → 0 < length (before_first is_blank (skip_blanks bs)) → words_in bs ≡ before_first is_blank (skip_blanks bs) ∷ words_in (after_first is_blank (skip_blanks bs))
some_word bs h = sym (words_skip bs) ∙ filled_front is_blank (skip_blanks bs) h

-- what begins with no blank has no empty front
no_front : (bs : List ℕ) → length (before_first is_blank (skip_blanks bs)) ≡ 0 → length (skip_blanks bs) ≡ 0
no_front [] e = refl
no_front (b ∷ bs) e = go (is_blank b) refl (no_front bs) e
  where
    go : (t : Bool) → is_blank b ≡ t → (length (before_first is_blank (skip_blanks bs)) ≡ 0 → length (skip_blanks bs) ≡ 0) → length (before_first is_blank (drop (cond (not (not t)) (1 + position_or_len (λ b. not (is_blank b)) bs) 0) (b ∷ bs))) ≡ 0 → length (drop (cond (not (not t)) (1 + position_or_len (λ b. not (is_blank b)) bs) 0) (b ∷ bs)) ≡ 0
    go true h later e =
        let one_more : suc (position_or_len (λ b. not (is_blank b)) bs) ≡ 1 + position_or_len (λ b. not (is_blank b)) bs = omega arith in
        let P : ℕ → Type 0 = λ n. length (before_first is_blank (drop n (b ∷ bs))) ≡ 0 → length (drop n (b ∷ bs)) ≡ 0 in
        subst P one_more later e
    go false h later e =
        let same : length (take (cond (not false) (1 + position_or_len is_blank bs) 0) (b ∷ bs)) ≡ 0 = subst (λ t. length (take (cond (not t) (1 + position_or_len is_blank bs) 0) (b ∷ bs)) ≡ 0) h e in
        absurd (omega (arith, length-take (1 + position_or_len is_blank bs) (b ∷ bs), same))

pub no_word : (bs text word rest : List ℕ) → text ≡ skip_blanks bs → word ≡ before_first is_blank text → rest ≡ after_first is_blank text → length word ≡ 0 → (words_in bs ≡ []) × (words_in rest ≡ [])
no_word bs text word rest t w r e =
    let no_text : length text ≡ 0 = ap length t ∙ no_front bs (sym (ap length w ∙ ap (λ l. length (before_first is_blank l)) t) ∙ e) in
    (sym (words_skip bs) ∙ ap words_in (sym t) ∙ words_none text no_text, words_none rest (ap length r ∙ omega (arith, no_text, length-drop (position_or_len is_blank text + 1) text)))

-- the front of a text is within the text, and as long as the place of the first separator
pub ruleset fronts = (position_is, prefix_len-le-length)

pub some_line : (bs : List ℕ) → 0 < length bs → lines_in bs ≡ before_first (separates LineFeed) bs ∷ lines_in (after_first (separates LineFeed) bs)
some_line = ended_front (separates LineFeed)

-- what is handed out, and what is left
pub ruleset next_line = (lines_none, some_line)

pub ruleset next_word = (some_word, no_word)
