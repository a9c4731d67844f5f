use Rattle.std.proofs.Common.{◌≡◌, ◌∙◌, ◌++◌, [], ◌∷◌, List, map, take, sym, ap, None}
use Rattle.std.specs.Option.{option_map}
use Rattle.std.proofs.lemmas.List.{map-append, take_more}
use Rattle.pql_model.specs.declared.statement.Source.{Source}
use Rattle.pql_from.specs.declared.clause.Given.{Given}
use Rattle.pql_from.specs.Held.{join_of, joins_of, sources_of}
use Rattle.pql_from.proofs.Joined.{given_more, none_joined}
use Rattle.test_pql.proofs.behind.all_given.Goals as goal

pub sources-preserved : goal.sources-preserved
sources-preserved c =
    let sources = c.args.sources.now in
    let i = c.sources.source-index in
    let s = c.source-item.result in
    let before = c.sources.given.items in
    let items = c.in_ok-push.ensures.items in
    record {
      joins = ap joins_of items ∙ map-append (λ (x : Given). option_map join_of x.join) before _
          ∙ given_more (λ (x : Source). None) sources i s _ c.sources-test.true c.source-item.is c.sources.invariant.joins;
      sources = ap sources_of items ∙ map-append (λ (x : Given). x.source.now) before _
          ∙ ap (λ (ss : List Source). ss ++ s ∷ []) c.sources.invariant.sources
          ∙ ap (λ (x : Source). take i sources ++ x ∷ []) c.source-item.is ∙ sym (take_more sources i s c.sources-test.true);
    }

pub returns-clause-joins : goal.returns-clause-joins
returns-clause-joins c = λ params from.
    none_joined params from 0 (joins_of c.sources.given.items) (take c.sources.source-index c.args.sources.now)
    c.sources.invariant.joins
