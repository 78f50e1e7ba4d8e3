-- What the rows of a state keep.
use Rattle.std.proofs.Common.{◌≡◌, ℕ, ◌+◌, ◌<◌, ◌≤◌, ◌==◌, false, List, [], ◌∷◌, ◌++◌, if◌then◌else◌, length, drop, get_or, refl, sym, ap, ◌∙◌, subst, add-one, arith, append_assoc, drop-cons}
use Rattle.std.specs.Prelude.{Err, None}
use Rattle.std.specs.List.{All}
use Rattle.std.proofs.lemmas.Bool.{ne_eqb}
use Rattle.hrt_base.specs.declared.numbered.RowNo.{RowNo}
use Rattle.pb_rows.specs.Terms.{PlainRow}
use Rattle.pb_rows.specs.Formula.{NumberedRow, is_numbered, numbered_from, without}
use Rattle.propagation.specs.Following.{IsOver}
use Rattle.rup_engine.specs.Live.{LiveRows}
use Rattle.proof_rules.specs.Refusals.{BadId}
use Rattle.proof_rules.specs.States.{AreNumbered, State, deleted, with_row}
use Rattle.proof_rules.proofs.Numbers.{numbered-from, numbered-push, numbered-without}
use Rattle.proof_rules.proofs.Steps.{push-all, rows-numbered_from, without-all}
use Rattle.proof_checker.specs.Kept.{IsKeptOver}

-- ---- lists

pub drop-at : {A : Type 0} (xs : List A) (i : ℕ) (d : A) → i < length xs → drop i xs ≡ get_or xs i d ∷ drop (i + 1) xs
drop-at xs i d h = rw add-one (drop-cons xs i d h)

-- ---- numbers

order : (low high : ℕ) (entries : List NumberedRow) → AreNumbered low high entries → low ≤ high
order low high [] n = n
order low high (e ∷ es) n = omega (arith, n.0, order (e.number + 1) high es n.1)

-- no row has the next number
pub fresh : (n low high : ℕ) (entries : List NumberedRow) → high ≤ n → AreNumbered low high entries → is_numbered n entries ≡ false
fresh n low high [] h a = refl
fresh n low high (e ∷ es) h a =
    let other : (e.number == n) ≡ false = ne_eqb e.number n (λ q. omega (arith, h, order (e.number + 1) high es a.1, q)) in
    rw other (fresh n (e.number + 1) high es h a.1)

-- one more of the rows from a number on
pub numbered-on : (live : List NumberedRow) (n i : ℕ) (rows : List PlainRow) (row d : PlainRow) → i < length rows → get_or rows i d ≡ row →
    (live ++ record { number = n; row = row } ∷ []) ++ numbered_from (n + 1) (drop (i + 1) rows) ≡ live ++ numbered_from n (drop i rows)
numbered-on live n i rows row d h at =
    append_assoc live (record { number = n; row = row } ∷ []) (numbered_from (n + 1) (drop (i + 1) rows))
    ∙ ap (λ (rest : List PlainRow). live ++ numbered_from n rest) (sym (drop-at rows i d h ∙ ap (λ (r : PlainRow). r ∷ drop (i + 1) rows) at))

-- ---- rows

pub kept-push : (vars : ℕ) (s : State) (row : PlainRow) → IsKeptOver vars s → IsOver vars row → IsKeptOver vars (with_row s row)
kept-push vars s row k over = record { ordered = numbered-push 1 s.next s.live row k.ordered; over = push-all (IsOver vars) s row k.over over }

pub kept-without : (vars n : ℕ) (s : State) (live : List NumberedRow) → IsKeptOver vars (record s { live = live }) → IsKeptOver vars (record s { live = without n live })
kept-without vars n s live k = record { ordered = numbered-without n 1 s.next live k.ordered; over = without-all (IsOver vars) n live k.over }

pub kept-first : (vars n : ℕ) (rows seen : List PlainRow) (live : LiveRows) → live ≡ record { vars = vars; rows = numbered_from 1 seen } → seen ≡ rows → n ≡ length seen → All (IsOver vars) rows →
    IsKeptOver live.vars (record { live = live.rows; next = n + 1; least = None })
kept-first vars n rows seen live is same count over =
    subst (λ (l : LiveRows). IsKeptOver l.vars (record { live = l.rows; next = n + 1; least = None })) (sym is) (record {
      ordered = subst (λ (high : ℕ). AreNumbered 1 high (numbered_from 1 seen)) (omega (arith, count)) (numbered-from 1 seen);
      over = subst (All (IsOver vars)) (sym (rows-numbered_from 1 seen ∙ same)) over;
    })

-- ---- deletions

-- the next number
pub deleted-here : (ids : List RowNo) (i : ℕ) (d : RowNo) (live : List NumberedRow) → i < length ids →
    deleted (drop i ids) live ≡ (if is_numbered (get_or ids i d).0 live then deleted (drop (i + 1) ids) (without (get_or ids i d).0 live) else Err (BadId (get_or ids i d).0))
deleted-here ids i d live h = ap (λ (ks : List RowNo). deleted ks live) (drop-at ids i d h)
