-- The steps that name a live row and an axiom.
use Rattle.std.proofs.Common.{◌≡◌, ℕ, ◌-◌, ◌<◌, ◌≤◌, ◌^◌, true, List, [], ◌∷◌, ◌++◌, nat_le, if◌then◌else◌, length, refl, ap, arith}
use Rattle.std.specs.Prelude.{Option, Some, Ok, Err, codes, decimal}
use Rattle.std.proofs.lemmas.Bool.{and_from, le-leb}
use Rattle.std.proofs.lemmas.Fmt.{length-decimal-le}
use Rattle.std.proofs.lemmas.List.{length-append}
use Rattle.pb_rows.specs.Terms.{PlainRow}
use Rattle.pb_rows.specs.Rows.{literal_row}
use Rattle.pb_rows.specs.Formula.{NumberedRow, row_of}
use Rattle.row_text.specs.Tokens.{spaced}
use Rattle.proof_lines.specs.declared.line.PolStep.TheVariants.{Id, Axiom}
use Rattle.proof_lines.specs.Spelling.{row_no}
use Rattle.proof_lines.specs.Texts.{step_words}
use Rattle.proof_rules.specs.Refusals.{BadVariable}
use Rattle.proof_rules.specs.Pol.{push_live}
use Rattle.proof_rules.specs.States.{AreNumbered}
use Rattle.proof_rules.proofs.Numbers.{live_within}
use Rattle.capacity_bound.proofs.Covers.{Covers, covers_axiom}
use Rattle.capacity_bound.proofs.Running.{Operand}

id_short : (n : ℕ) → n < 10 ^ 18 → length (spaced (decimal n ∷ [])) ≤ 19
id_short n h = omega (arith, length-append (decimal n) [], length-decimal-le 18 n (omega arith) h (omega arith))

axiom_short : (p : ℕ) → p < 10 ^ 6 → length (spaced (step_words (Axiom (record { var = p; neg = true })))) ≤ 19
axiom_short p h =
    omega (arith, length-append (codes "~" ++ codes "x" ++ decimal p) [], length-append (codes "~" ++ codes "x") (decimal p), length-decimal-le 6 p (omega arith) h (omega arith))

module _ (vars next : ℕ) (live : List NumberedRow) (order : AreNumbered 1 next live) (few : next ≤ 10 ^ 18) where
  pub id_operand : (n : ℕ) (row : PlainRow) (ps : List ℕ) (d : ℕ) → row_of n live ≡ Some row → Covers row ps d → 1 ≤ length ps → d ≤ length ps → Operand vars live (Id (row_no n)) ps d
  id_operand n row ps d e c some within =
      let place = live_within n next row live order e in
      record {
        row = row;
        pushes = λ stack. ap (λ (o : Option PlainRow). push_live n o stack) e;
        covers = c;
        some = some;
        within = within;
        made = and_from (nat_le 1 n) (nat_le n (10 ^ 18 - 1)) (le-leb 1 n place.0) (le-leb n (10 ^ 18 - 1) (omega (arith, place.1)));
        small = refl;
        short = id_short n (omega (arith, place.1));
      }

  pub axiom_operand : (p : ℕ) → 1 ≤ p → p ≤ vars → vars ≤ 100000 → Operand vars live (Axiom (record { var = p; neg = true })) (p ∷ []) 0
  axiom_operand p first last most = record {
    row = literal_row (record { var = p; neg = true });
    pushes = λ stack. ap (λ b. if b then Ok (literal_row (record { var = p; neg = true }) ∷ stack) else Err (BadVariable p)) (le-leb p vars last);
    covers = covers_axiom p;
    some = omega arith;
    within = omega arith;
    made = and_from (nat_le 1 p) (nat_le p 4294967295) (le-leb 1 p first) (le-leb p 4294967295 (omega arith));
    small = refl;
    short = axiom_short p (omega arith);
  }
