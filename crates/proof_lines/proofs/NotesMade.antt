-- A note that a text spells is made.
use Rattle.std.proofs.Common.{◌≡◌, ℕ, ◌+◌, Bool, true, false, ◌&&◌, List, [], ◌∷◌, length, Option, Some, None, refl, subst, if◌then◌else◌}
use Rattle.std.specs.Prelude.{bytes_eq, codes, nat_le, option_and_then, option_map}
use Rattle.std.specs.List.{list_all}
use Rattle.std.proofs.lemmas.Bool.{and_from}
use Rattle.hrt_base.specs.declared.literal.Lit.{Lit}
use Rattle.hrt_base.specs.declared.numbered.RowNo.{RowNo}
use Rattle.hrt_text.specs.Text.{without_return}
use Rattle.row_text.specs.Numbers.{both, read_each, read_literal, read_variable}
use Rattle.row_text.specs.Tokens.{tokens}
use Rattle.proof_lines.specs.declared.note.Note.{Note}
use Rattle.proof_lines.specs.declared.note.Note.TheVariants.{Unit as unit_note, Bound as bound_note, Load as load_note, Learn as learn_note, Drop as drop_note}
use Rattle.proof_lines.specs.Notes.{Front, learn_behind, learn_from, load_behind, note_of, read_front, read_kind, read_learn, read_load, read_note_tokens, read_one_literal, read_one_row, with_item, without_feed}
use Rattle.proof_lines.specs.Spelling.{most_bytes, one_or_more, read_row_no}
use Rattle.proof_lines.specs.Texts.{is_spellable_id, is_spellable_literal, is_spellable_note, is_spellable_variable, is_nonempty_and_all}
use Rattle.row_text.proofs.Ranges.{both_some, if_some, map_some}
use Rattle.proof_lines.proofs.Made.{each_made, literal_is_made, row_no_made, some_made, variable_is_made}

then_some : {A B : Type 0} (f : A → Option B) (o : Option A) (y : B) → option_and_then f o ≡ Some y → (x : A) × (o ≡ Some x) × (f x ≡ Some y)
then_some f None y e = absurd cc
then_some f (Some x) y e = (x, refl, e)

front_by : {A : Type 0} (colon : Bool) (test : A → Bool) (o : Option A) (ts : List (List ℕ)) (later : Option (Front A)) (front : Front A)
    → ((x : A) → o ≡ Some x → test x ≡ true) → ((f : Front A) → later ≡ Some f → list_all test f.items ≡ true)
    → (if colon then Some (record { items = []; behind = ts }) else both with_item o later) ≡ Some front → list_all test front.items ≡ true
front_by {A} true test o ts later front h k e =
    let none : Front A = record { items = []; behind = ts } in
    let is : none ≡ front = cc e in
    subst (λ (f : Front A). list_all test f.items ≡ true) is refl
front_by {A} false test o ts later front h k e =
    let b = both_some with_item o later front e in
    subst (λ (f : Front A). list_all test f.items ≡ true) b.joined_is (and_from (test b.first) (list_all test b.second.items) (h b.first b.first_is) (k b.second b.second_is))

front_made : {A : Type 0} (read : List ℕ → Option A) (test : A → Bool) → ((t : List ℕ) (x : A) → read t ≡ Some x → test x ≡ true) → (ts : List (List ℕ)) (front : Front A)
    → read_front read ts ≡ Some front → list_all test front.items ≡ true
front_made read test h [] front e = absurd cc
front_made read test h (t ∷ ts) front e = front_by (bytes_eq t (codes ":")) test (read t) ts (read_front read ts) front (h t) (front_made read test h ts) e

one_row_made : (ts : List (List ℕ)) (r : RowNo) → read_one_row ts ≡ Some r → is_spellable_id r ≡ true
one_row_made [] r e = absurd cc
one_row_made (t ∷ []) r e = row_no_made t r e
one_row_made (t ∷ u ∷ ts) r e = absurd cc

one_literal_made : (ts : List (List ℕ)) (l : Lit) → read_one_literal ts ≡ Some l → is_spellable_literal l ≡ true
one_literal_made [] l e = absurd cc
one_literal_made (t ∷ []) l e = literal_is_made t l e
one_literal_made (t ∷ u ∷ ts) l e = absurd cc

load_made : (ts : List (List ℕ)) (note : Note) → read_load ts ≡ Some note → is_spellable_note note ≡ true
load_made ts note e =
    let f = then_some load_behind (read_front read_variable ts) note e in
    let m = map_some (load_note f.0.items) (one_or_more (read_each read_row_no f.0.behind)) note f.2 in
    subst (λ (n : Note). is_spellable_note n ≡ true) m.2
    (and_from (list_all is_spellable_variable f.0.items) (is_nonempty_and_all is_spellable_id m.0) (front_made read_variable is_spellable_variable variable_is_made ts f.0 f.1)
    (some_made is_spellable_id (read_each read_row_no f.0.behind) m.0 (each_made read_row_no is_spellable_id row_no_made f.0.behind) m.1))

learned_made : (row : Option RowNo) (ts : List (List ℕ)) (note : Note) → ((r : RowNo) → row ≡ Some r → is_spellable_id r ≡ true) → learn_from row ts ≡ Some note → is_spellable_note note ≡ true
learned_made None ts note h e = absurd cc
learned_made (Some r) ts note h e =
    let f = then_some (learn_behind r) (read_front read_literal ts) note e in
    let m = map_some (learn_note r f.0.items) (read_one_literal f.0.behind) note f.2 in
    subst (λ (n : Note). is_spellable_note n ≡ true) m.2
    (and_from (is_spellable_id r && list_all is_spellable_literal f.0.items) (is_spellable_literal m.0)
    (and_from (is_spellable_id r) (list_all is_spellable_literal f.0.items) (h r refl) (front_made read_literal is_spellable_literal literal_is_made ts f.0 f.1))
    (one_literal_made f.0.behind m.0 m.1))

learn_made : (ts : List (List ℕ)) (note : Note) → read_learn ts ≡ Some note → is_spellable_note note ≡ true
learn_made [] note e = absurd cc
learn_made (t ∷ []) note e = absurd cc
learn_made (t ∷ u ∷ ts) note e =
    learned_made (read_row_no t) ts note (row_no_made t) (if_some (bytes_eq u (codes ":")) (learn_from (read_row_no t) ts) note e).1

row_note_made : (make : RowNo → Note) (ts : List (List ℕ)) (note : Note) → ((r : RowNo) → is_spellable_id r ≡ true → is_spellable_note (make r) ≡ true) → option_map make (read_one_row ts) ≡ Some note → is_spellable_note note ≡ true
row_note_made make ts note h e =
    let m = map_some make (read_one_row ts) note e in
    subst (λ (n : Note). is_spellable_note n ≡ true) m.2 (h m.0 (one_row_made ts m.0 m.1))

kind_by : (unit bound load learn drop : Bool) (ts : List (List ℕ)) (note : Note) → (
    if unit then option_map unit_note (read_one_row ts)
    else if bound then option_map bound_note (read_one_row ts)
    else if load then read_load ts
    else if learn then read_learn ts
    else if drop then option_map drop_note (read_one_row ts)
    else None) ≡ Some note → is_spellable_note note ≡ true
kind_by true bound load learn drop ts note e = row_note_made unit_note ts note (λ r h. h) e
kind_by false true load learn drop ts note e = row_note_made bound_note ts note (λ r h. h) e
kind_by false false true learn drop ts note e = load_made ts note e
kind_by false false false true drop ts note e = learn_made ts note e
kind_by false false false false true ts note e = row_note_made drop_note ts note (λ r h. h) e
kind_by false false false false false ts note e = absurd cc

kind_made : (kind : List ℕ) (ts : List (List ℕ)) (note : Note) → read_kind kind ts ≡ Some note → is_spellable_note note ≡ true
kind_made kind ts note e = kind_by (bytes_eq kind (codes "unit")) (bytes_eq kind (codes "bound")) (bytes_eq kind (codes "load")) (bytes_eq kind (codes "learn")) (bytes_eq kind (codes "drop")) ts note e

words_made : (ts : List (List ℕ)) (note : Note) → read_note_tokens ts ≡ Some note → is_spellable_note note ≡ true
words_made [] note e = absurd cc
words_made (t ∷ []) note e = absurd cc
words_made (t ∷ u ∷ []) note e = absurd cc
words_made (t ∷ u ∷ v ∷ ts) note e = kind_made v ts note (if_some (bytes_eq t (codes "*") && bytes_eq u (codes "note")) (read_kind v ts) note e).1

pub note_made : (bytes : List ℕ) (note : Note) → note_of bytes ≡ Some note → is_spellable_note note ≡ true
note_made bytes note e =
    let text : List ℕ = without_feed bytes in
    words_made (tokens (without_return text)) note (if_some (nat_le (length text + 1) most_bytes) (read_note_tokens (tokens (without_return text))) note e).1
