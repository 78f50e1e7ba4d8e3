use Rattle.std.proofs.Common.{ℕ, refl, sym, ap, ◌∙◌, subst}
use Rattle.hrt_cli.specs.Requests.{request_of, texts_of}
use Rattle.hrt_cli.specs.Runs.{Finishes, IsComplete, IsDecided, IsDue, Settles, has_report}
use Rattle.hrt_cli.proofs.Codes.{complete, decided, decided_as, due, finishes}
use Rattle.hrt_cli.proofs.NamedOutputs.{AreNamed, outputs_named}
use Rattle.hrt_cli.proofs.PrintedAudits.{audits, comes_with_report}
use Rattle.hrt_cli.proofs.PrintedBounds.{bound_printed, met, open_printed}
use Rattle.hrt_cli.proofs.PrintedClaims.{claimed, sizes}
use Rattle.hrt_cli.proofs.PrintedModels.{model_written}
use Rattle.hrt_cli.proofs.PrintedSearches.{best, settles, spent}
use Rattle.hrt_cli.proofs.program.run.Goals as goal

pub returns-clause-best : goal.returns-clause-best
returns-clause-best g c = λ t e i m p n is. best i m p n _ _ (subst AreNamed is (outputs_named (texts_of c.args.words.now))) (decided_as _ _ _ _ _ c.carry_out.ensures.ends t _ 0 c.exit_code.ensures e refl _ is)

pub returns-clause-spent : goal.returns-clause-spent
returns-clause-spent g c = λ t e i m p n is. spent i m p n _ _ (subst AreNamed is (outputs_named (texts_of c.args.words.now))) (decided_as _ _ _ _ _ c.carry_out.ensures.ends t _ 10 c.exit_code.ensures e refl _ is)

pub returns-clause-audited : goal.returns-clause-audited
returns-clause-audited g c = λ t e i q is. audits i q _ _ _ e (decided_as _ _ _ _ _ c.carry_out.ensures.ends t _ c.exit_code.result c.exit_code.ensures refl (comes_with_report _ e) _ is)

pub returns-clause-model : goal.returns-clause-model
returns-clause-model g c = λ t e i m is. model_written i m _ _ (subst AreNamed is (outputs_named (texts_of c.args.words.now))) (decided_as _ _ _ _ _ c.carry_out.ensures.ends t _ 0 c.exit_code.ensures e refl _ is)

pub returns-clause-sizes : goal.returns-clause-sizes
returns-clause-sizes g c = λ t e i p is. sizes i p _ _ (decided_as _ _ _ _ _ c.carry_out.ensures.ends t _ 0 c.exit_code.ensures e refl _ is)

pub returns-clause-claim : goal.returns-clause-claim
returns-clause-claim g c = λ t e m p is. claimed m p _ _ (decided_as _ _ _ _ _ c.carry_out.ensures.ends t _ 0 c.exit_code.ensures e refl _ is)

pub returns-clause-bound : goal.returns-clause-bound
returns-clause-bound g c = λ t e i m p is. bound_printed i m p _ _ (subst AreNamed is (outputs_named (texts_of c.args.words.now))) (decided_as _ _ _ _ _ c.carry_out.ensures.ends t _ 0 c.exit_code.ensures e refl _ is)

pub returns-clause-met : goal.returns-clause-met
returns-clause-met g c = λ t e i m p is. met i m p _ _ (subst AreNamed is (outputs_named (texts_of c.args.words.now))) (decided_as _ _ _ _ _ c.carry_out.ensures.ends t _ 0 c.exit_code.ensures e refl _ is)

pub returns-clause-bounded : goal.returns-clause-bounded
returns-clause-bounded g c = λ t e i m p is. open_printed i m p _ _ (subst AreNamed is (outputs_named (texts_of c.args.words.now))) (decided_as _ _ _ _ _ c.carry_out.ensures.ends t _ 10 c.exit_code.ensures e refl _ is)

pub returns-clause-decided : goal.returns-clause-decided
returns-clause-decided g c = λ t has.
    subst (λ (n : ℕ). IsDecided (request_of (texts_of c.args.words.now)) n (g.H.Host.world c.args.host.now) (g.H.Host.world c.carry_out.new.host)) (sym c.exit_code.ensures)
    (decided _ _ _ _ _ c.carry_out.ensures.ends t (ap has_report (sym c.exit_code.ensures) ∙ has))

pub returns-clause-due : goal.returns-clause-due
returns-clause-due g c = λ t. subst (λ (n : ℕ). IsDue (request_of (texts_of c.args.words.now)) n (g.H.Host.world c.args.host.now) (g.H.Host.world c.carry_out.new.host)) (sym c.exit_code.ensures) (due _ _ _ _ _ c.carry_out.ensures.ends t)

pub returns-clause-complete : goal.returns-clause-complete
returns-clause-complete g c = λ t. subst (λ (n : ℕ). IsComplete (request_of (texts_of c.args.words.now)) n (g.H.Host.world c.args.host.now) (g.H.Host.world c.carry_out.new.host)) (sym c.exit_code.ensures) (complete _ _ _ _ _ c.carry_out.ensures.ends t)

pub returns-clause-finishes : goal.returns-clause-finishes
returns-clause-finishes g c = λ t. subst (λ (n : ℕ). Finishes (request_of (texts_of c.args.words.now)) n (g.H.Host.world c.args.host.now) (g.H.Host.world c.carry_out.new.host)) (sym c.exit_code.ensures) (finishes _ _ _ _ _ c.carry_out.ensures.ends t)

pub returns-clause-settles : goal.returns-clause-settles
returns-clause-settles g c = λ t i m p n is.
    subst (λ (k : ℕ). Settles i n k (g.H.Host.world c.args.host.now) (g.H.Host.world c.carry_out.new.host)) (sym c.exit_code.ensures) (settles _ _ _ _ _ c.carry_out.ensures.ends t i m p n is)
