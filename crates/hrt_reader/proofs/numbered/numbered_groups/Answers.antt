use Rattle.std.proofs.Common.{◌≡◌, ◌∙◌, ◌<◌, ◌∷◌, ℕ, List, sym, ap, subst, length, true}
use Rattle.std.specs.List.{list_all}
use Rattle.hrt_text.specs.Text.{Token, tokens}
use Rattle.rank_tables.specs.Names.{is_among}
use Rattle.hrt_text.specs.Grammar.{words}
use Rattle.hrt_reader.specs.Numbered.{is_known, next_place}
use Rattle.hrt_text.specs.Views.{texts, view_token}
use Rattle.hrt_text.specs.declared.items.Place.{Place}
use Rattle.hrt_text.specs.declared.items.Place.TheVariants.{Inside}
use Rattle.hrt_reader.proofs.TokenReading.{reads, reads_groups, some_kept, known_step}
use Rattle.hrt_reader.proofs.numbered.numbered_groups.Goals as goal

pub loop-token-preserved : goal.loop-token-preserved
loop-token-preserved c =
    let names : List (List ℕ) = texts c.args.names.now.keys in
    let t : Token = view_token c.in-Some.token in
    let after : List Token = tokens c.in-Some.after.now in
    let v = c.loop-token.invariant in
    let e : tokens c.loop-token.rest.now ≡ t ∷ after = c.in-Some.ensures.some in
    let known : is_known names t ≡ true = sym c.in_ok-known.ensures.known ∙ c.if-not-known.false in
    let taken = c.in_ok-known.ensures.taken c.if-not-known.false in
    record {
      groups = v.groups ∙ ap (reads names c.loop-token.groups c.loop-token.place) e
          ∙ ap (λ (g : List (List ℕ)). reads names g (next_place c.loop-token.place t) after) (sym taken)
          ∙ ap (λ (p : Place). reads names c.take_token.new.groups p after) (sym c.next_place-place.ensures);
      known = v.known ∙ ap (λ (ts : List Token). list_all (λ (w : List ℕ). is_among w names) (words ts)) e ∙ known_step names t after known;
      some = λ (p : c.next_place-place.result ≡ Inside). subst (λ (g : List (List ℕ)). 0 < length g) (sym taken) (some_kept names c.loop-token.groups c.loop-token.place t v.some (sym c.next_place-place.ensures ∙ p));
    }

pub returns-clause-groups : goal.returns-clause-groups
returns-clause-groups c =
    let names : List (List ℕ) = texts c.args.names.now.keys in
    let v = c.loop-token.invariant in
    sym (v.groups ∙ ap (reads names c.loop-token.groups c.loop-token.place) c.in_default.ensures.none) ∙ reads_groups names (tokens c.args.items.now) c.requires.fit
