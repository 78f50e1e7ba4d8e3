-- A line that a text spells is made, and so is a note.
use Rattle.std.proofs.Common.{◌≡◌, ℕ, ◌+◌, ℤ, pos, negsuc, Bool, true, false, List, [], ◌∷◌, length, Option, Some, None, refl, subst, if◌then◌else◌}
use Rattle.std.specs.Prelude.{bytes_eq, codes, nat_le, option_map}
use Rattle.std.specs.List.{list_all}
use Rattle.std.proofs.lemmas.Bool.{and_from}
use Rattle.hrt_base.specs.declared.literal.Lit.{Lit}
use Rattle.hrt_base.specs.declared.literal.Term.{Term}
use Rattle.hrt_base.specs.declared.numbered.RowNo.{RowNo}
use Rattle.hrt_text.specs.Text.{without_return}
use Rattle.pb_rows.specs.Terms.{Written}
use Rattle.row_text.specs.Numbers.{both, read_each, read_id, read_literal, read_number, read_variable}
use Rattle.row_text.specs.Rows.{read_right, read_row, read_term, row_end, with_term}
use Rattle.row_text.specs.Tokens.{are, is_comment, tokens}
use Rattle.proof_lines.specs.declared.line.PolStep.{PolStep}
use Rattle.proof_lines.specs.declared.line.PolStep.TheVariants.{Id, Axiom, Add, Times, Divide, Saturate, Weaken}
use Rattle.proof_lines.specs.declared.line.Line.{Line}
use Rattle.proof_lines.specs.declared.line.Line.TheVariants.{Header, Count, Pol, Rup, Soli, Del, Output, Conclusion, End, Comment, Blank}
use Rattle.proof_lines.specs.Spelling.{end_words, factor, header_words, id_or_axiom, most_bytes, one_or_more, output_words, read_claim, read_count, read_del, read_line, read_row_no, read_step, read_steps, read_tokens, read_words, row_no}
use Rattle.proof_lines.specs.Texts.{is_factor, is_spellable, is_spellable_id, is_spellable_literal, is_spellable_step, is_spellable_term, is_nonempty_and_all}
use Rattle.row_text.proofs.Ranges.{both_some, if_some, map_some}
use Rattle.proof_lines.proofs.Made.{count_made, each_made, id_is_made, literal_is_made, row_no_made, some_made, variable_is_made}

-- ---- steps

factor_made : (o : Option ℤ) (k : ℤ) → factor o ≡ Some k → is_factor k ≡ true
factor_made None k e = absurd cc
factor_made (Some (pos n)) k e =
    let i = if_some (nat_le 1 n) (Some (pos n)) k e in
    let is : pos n ≡ k = cc (i.1) in
    subst (λ (z : ℤ). is_factor z ≡ true) is i.0
factor_made (Some (negsuc n)) k e = absurd cc

word_made : (id : Option ℕ) (literal : Option Lit) (step : PolStep) → ((n : ℕ) → id ≡ Some n → is_spellable_id (row_no n) ≡ true) → ((l : Lit) → literal ≡ Some l → is_spellable_literal l ≡ true)
    → id_or_axiom id literal ≡ Some step → is_spellable_step step ≡ true
word_made (Some n) literal step h k e = let is : Id (row_no n) ≡ step = cc e in subst (λ (s : PolStep). is_spellable_step s ≡ true) is (h n refl)
word_made None (Some l) step h k e = let is : Axiom l ≡ step = cc e in subst (λ (s : PolStep). is_spellable_step s ≡ true) is (k l refl)
word_made None None step h k e = absurd cc

step_by : (add saturate : Bool) (t : List ℕ) (step : PolStep) → (if add then Some Add else if saturate then Some Saturate else id_or_axiom (read_id t) (read_literal t)) ≡ Some step → is_spellable_step step ≡ true
step_by true saturate t step e = let is : Add ≡ step = cc e in subst (λ (s : PolStep). is_spellable_step s ≡ true) is refl
step_by false true t step e = let is : Saturate ≡ step = cc e in subst (λ (s : PolStep). is_spellable_step s ≡ true) is refl
step_by false false t step e = word_made (read_id t) (read_literal t) step (id_is_made t) (literal_is_made t) e

step_made : (t : List ℕ) (step : PolStep) → read_step t ≡ Some step → is_spellable_step step ≡ true
step_made t step e = step_by (bytes_eq t (codes "+")) (bytes_eq t (codes "s")) t step e

-- a first item that is made before steps that are
front_made : {A : Type 0} (make : A → PolStep) (o : Option A) (rest : Option (List PolStep)) (steps : List PolStep) → ((x : A) → o ≡ Some x → is_spellable_step (make x) ≡ true)
    → ((ss : List PolStep) → rest ≡ Some ss → list_all is_spellable_step ss ≡ true) → both (λ x ss. make x ∷ ss) o rest ≡ Some steps → list_all is_spellable_step steps ≡ true
front_made {A} make o rest steps h k e =
    let b = both_some (λ (x : A) (ss : List PolStep). make x ∷ ss) o rest steps e in
    subst (λ (ss : List PolStep). list_all is_spellable_step ss ≡ true) b.joined_is (and_from (is_spellable_step (make b.first)) (list_all is_spellable_step b.second) (h b.first b.first_is) (k b.second b.second_is))

steps_by : (times divide weaken : Bool) (t : List ℕ) (later after : Option (List PolStep)) (steps : List PolStep)
    → ((ss : List PolStep) → later ≡ Some ss → list_all is_spellable_step ss ≡ true) → ((ss : List PolStep) → after ≡ Some ss → list_all is_spellable_step ss ≡ true)
    → (if times then both (λ k ss. Times k ∷ ss) (factor (read_number t)) later
    else if divide then both (λ k ss. Divide k ∷ ss) (factor (read_number t)) later
    else if weaken then both (λ v ss. Weaken v ∷ ss) (read_variable t) later
    else both (λ s ss. s ∷ ss) (read_step t) after) ≡ Some steps → list_all is_spellable_step steps ≡ true
steps_by true divide weaken t later after steps h k e = front_made Times (factor (read_number t)) later steps (factor_made (read_number t)) h e
steps_by false true weaken t later after steps h k e = front_made Divide (factor (read_number t)) later steps (factor_made (read_number t)) h e
steps_by false false true t later after steps h k e = front_made Weaken (read_variable t) later steps (variable_is_made t) h e
steps_by false false false t later after steps h k e = front_made (λ (s : PolStep). s) (read_step t) after steps (step_made t) k e

steps_made : (ts : List (List ℕ)) (steps : List PolStep) → read_steps ts ≡ Some steps → list_all is_spellable_step steps ≡ true
steps_made [] steps e = let is : [] ≡ steps = cc e in subst (λ (ss : List PolStep). list_all is_spellable_step ss ≡ true) is refl
steps_made (t ∷ []) steps e =
    let m = map_some (λ (step : PolStep). step ∷ []) (read_step t) steps e in
    let here : is_spellable_step m.0 ≡ true = step_made t m.0 m.1 in
    subst (λ (ss : List PolStep). list_all is_spellable_step ss ≡ true) m.2 (and_from (is_spellable_step m.0) true here refl)
steps_made (t ∷ u ∷ ts) steps e =
    steps_by (bytes_eq u (codes "*")) (bytes_eq u (codes "d")) (bytes_eq u (codes "w")) t (read_steps ts) (read_steps (u ∷ ts)) steps (steps_made ts) (steps_made (u ∷ ts)) e

-- ---- rows

term_made : (t u : List ℕ) (term : Term) → read_term t u ≡ Some term → is_spellable_term term ≡ true
term_made t u term e =
    let b = both_some (λ (c : ℤ) (l : Lit). let r : Term = record { coef = c; lit = l } in r) (read_number t) (read_literal u) term e in
    subst (λ (r : Term). is_spellable_term r ≡ true) b.joined_is (literal_is_made u b.second b.second_is)

end_made : (u : List ℕ) (ts : List (List ℕ)) (row : Written) → row_end u ts ≡ Some row → list_all is_spellable_term row.terms ≡ true
end_made u ts row e =
    let m = map_some (λ (n : ℤ). let r : Written = record { terms = []; at_least = n } in r) (read_right u ts) row e in
    subst (λ (r : Written). list_all is_spellable_term r.terms ≡ true) m.2 refl

row_by : (ends : Bool) (t u : List ℕ) (ts : List (List ℕ)) (row : Written) → ((r : Written) → read_row ts ≡ Some r → list_all is_spellable_term r.terms ≡ true)
    → (if ends then row_end u ts else both with_term (read_term t u) (read_row ts)) ≡ Some row → list_all is_spellable_term row.terms ≡ true
row_by true t u ts row h e = end_made u ts row e
row_by false t u ts row h e =
    let b = both_some with_term (read_term t u) (read_row ts) row e in
    subst (λ (r : Written). list_all is_spellable_term r.terms ≡ true) b.joined_is (and_from (is_spellable_term b.first) (list_all is_spellable_term b.second.terms) (term_made t u b.first b.first_is) (h b.second b.second_is))

row_made : (ts : List (List ℕ)) (row : Written) → read_row ts ≡ Some row → list_all is_spellable_term row.terms ≡ true
row_made [] row e = absurd cc
row_made (t ∷ []) row e = absurd cc
row_made (t ∷ u ∷ ts) row e = row_by (bytes_eq t (codes ">=")) t u ts row (row_made ts) e

-- ---- lines

del_made : (ts : List (List ℕ)) (ids : List RowNo) → read_del ts ≡ Some ids → is_nonempty_and_all is_spellable_id ids ≡ true
del_made [] ids e = absurd cc
del_made (t ∷ ts) ids e =
    let i = if_some (bytes_eq t (codes "id")) (one_or_more (read_each read_row_no ts)) ids e in
    some_made is_spellable_id (read_each read_row_no ts) ids (each_made read_row_no is_spellable_id row_no_made ts) i.1

made_by : {A : Type 0} (make : A → Line) (o : Option A) (line : Line) → ((x : A) → o ≡ Some x → is_spellable (make x) ≡ true) → option_map make o ≡ Some line → is_spellable line ≡ true
made_by make o line h e = let m = map_some make o line e in subst (λ (l : Line). is_spellable l ≡ true) m.2 (h m.0 m.1)

words_by : (output header end : Bool) (line : Line) → (if output then Some Output else if header then Some Header else if end then Some End else None) ≡ Some line → is_spellable line ≡ true
words_by true header end line e = let is : Output ≡ line = cc e in subst (λ (l : Line). is_spellable l ≡ true) is refl
words_by false true end line e = let is : Header ≡ line = cc e in subst (λ (l : Line). is_spellable l ≡ true) is refl
words_by false false true line e = let is : End ≡ line = cc e in subst (λ (l : Line). is_spellable l ≡ true) is refl
words_by false false false line e = absurd cc

line_by : (comment f pol rup soli del conclusion : Bool) (t : List ℕ) (ts : List (List ℕ)) (line : Line) → (
    if comment then Some Comment
    else if f then option_map Count (read_count ts)
    else if pol then option_map Pol (one_or_more (read_steps ts))
    else if rup then option_map Rup (read_row ts)
    else if soli then option_map Soli (read_each read_literal ts)
    else if del then option_map Del (read_del ts)
    else if conclusion then option_map Conclusion (read_claim ts)
    else read_words (t ∷ ts)) ≡ Some line → is_spellable line ≡ true
line_by true f pol rup soli del conclusion t ts line e = let is : Comment ≡ line = cc e in subst (λ (l : Line). is_spellable l ≡ true) is refl
line_by false true pol rup soli del conclusion t ts line e = made_by Count (read_count ts) line (count_made ts) e
line_by false false true rup soli del conclusion t ts line e = made_by Pol (one_or_more (read_steps ts)) line (λ steps h. some_made is_spellable_step (read_steps ts) steps (steps_made ts) h) e
line_by false false false true soli del conclusion t ts line e = made_by Rup (read_row ts) line (row_made ts) e
line_by false false false false true del conclusion t ts line e = made_by Soli (read_each read_literal ts) line (each_made read_literal is_spellable_literal literal_is_made ts) e
line_by false false false false false true conclusion t ts line e = made_by Del (read_del ts) line (del_made ts) e
line_by false false false false false false true t ts line e = made_by Conclusion (read_claim ts) line (λ claim h. refl) e
line_by false false false false false false false t ts line e = words_by (are (t ∷ ts) output_words) (are (t ∷ ts) header_words) (are (t ∷ ts) end_words) line e

tokens_made : (ts : List (List ℕ)) (line : Line) → read_tokens ts ≡ Some line → is_spellable line ≡ true
tokens_made [] line e = let is : Blank ≡ line = cc e in subst (λ (l : Line). is_spellable l ≡ true) is refl
tokens_made (t ∷ ts) line e =
    line_by (is_comment (t ∷ ts)) (bytes_eq t (codes "f")) (bytes_eq t (codes "pol")) (bytes_eq t (codes "rup")) (bytes_eq t (codes "soli")) (bytes_eq t (codes "del")) (bytes_eq t (codes "conclusion")) t ts line e

pub line_made : (text : List ℕ) (line : Line) → read_line text ≡ Some line → is_spellable line ≡ true
line_made text line e = tokens_made (tokens (without_return text)) line (if_some (nat_le (length text + 1) most_bytes) (read_tokens (tokens (without_return text))) line e).1
