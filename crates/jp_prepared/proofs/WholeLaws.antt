-- The parts of a prepared statement together.
use Rattle.std.proofs.Common.{◌≡◌, [], map, refl}
use Rattle.jp_facts.proofs.Members.{In, from_in}
use Rattle.jp_query.specs.Freshness.{IsFresh, Sublink, sublinks_in}
use Rattle.jp_tree.specs.Prepared.{IsWhole}
use Rattle.jp_prepared.proofs.NameParts as names
use Rattle.jp_prepared.proofs.ScopeParts as scope
use Rattle.jp_catalog.specs.Sound.{IsSound}
use Rattle.jp_catalog.specs.declared.types.Catalog.{Catalog}
use Rattle.jp_query.specs.declared.Query.{Query}
use Rattle.jp_query.specs.Conditions.{IsTyped, IsBounded}
use Rattle.jp_query.specs.NoRight.{HasNoRight}
use Rattle.jp_query.specs.Parts.{base_leaves_in}
use Rattle.jp_query.specs.Refs.{only, union}
use Rattle.jp_resolution.specs.Schemas.{schema_of}
use Rattle.jp_folding.specs.Folding.{folded}
use Rattle.jp_tree.specs.declared.prepared.Prepared.{Prepared}
use Rattle.jp_prepared.specs.Planned.{IsPrepared}
use Rattle.jp_prepared.specs.Runnable.{IsRunnable}
use Rattle.jp_prepared.proofs.ColumnParts as columns
use Rattle.jp_prepared.proofs.OuterParts as outer
use Rattle.jp_prepared.proofs.Places.{placed_there}
use Rattle.jp_prepared.proofs.PlanParts as plans
use Rattle.jp_prepared.proofs.SublinkParts as sublinks
use Rattle.jp_prepared.proofs.TypedParts as types

pub runnable : (catalog : Catalog) (query : Query) (prepared : Prepared) → IsSound catalog → IsTyped (schema_of catalog) [] (folded query) → IsBounded (schema_of catalog) [] (folded query) → HasNoRight (folded query) → IsPrepared catalog query prepared
    → IsRunnable (schema_of catalog) prepared
runnable catalog query prepared sound typed bounded no_right is =
    let bases = union (map only (base_leaves_in (folded query))) in
    let top = placed_there (schema_of catalog) [] (folded query) typed bounded no_right in
    record {
      statement = outer.statement catalog sound query prepared is bases top;
      alone = outer.items_alone catalog sound query prepared is bases top;
      columns = columns.knows catalog sound query prepared is bases top;
      plannable = plans.plannable catalog sound query prepared is typed bounded no_right;
      plans = plans.planned catalog sound query prepared is;
      behind = plans.behind catalog sound query prepared is;
      sublinks = sublinks.have_blocks catalog sound query prepared is;
      ins = sublinks.give_one catalog sound query prepared is typed bounded no_right;
      types = λ number block low. record {
        typed = types.typed_exprs catalog sound query prepared is typed bounded no_right number block low;
        outputs = types.typed_outputs catalog sound query prepared is typed bounded no_right number block low;
        conditions = types.boolean_conditions catalog sound query prepared is typed bounded no_right number block low;
      };
    }

pub whole : (catalog : Catalog) (query : Query) (prepared : Prepared) → IsSound catalog → IsTyped (schema_of catalog) [] query → IsTyped (schema_of catalog) [] (folded query) → IsBounded (schema_of catalog) [] (folded query) → IsFresh query → IsFresh (folded query) → HasNoRight (folded query)
    → IsPrepared catalog query prepared → IsWhole prepared
whole catalog query prepared sound handed typed bounded fresh fresh_folded no_right is =
    let bases = union (map only (base_leaves_in (folded query))) in
    let top = placed_there (schema_of catalog) [] (folded query) typed bounded no_right in
    let run = runnable catalog query prepared sound typed bounded no_right is in
    let bounds = scope.bounded catalog sound query prepared is bases typed.apart (one_node (folded query) fresh_folded) top in
    let columns_known = scope.known catalog sound query prepared is bases typed.apart (one_node (folded query) fresh_folded) top in
    record {
      schema = schema_of catalog;
      scope = scope.all catalog sound query prepared is bases typed.apart (one_node (folded query) fresh_folded) top;
      shows = scope.shows catalog sound query prepared is bases typed.apart (one_node (folded query) fresh_folded) top;
      statement = run.statement;
      alone = run.alone;
      columns = run.columns;
      plannable = run.plannable;
      plans = run.plans;
      behind = run.behind;
      sublinks = run.sublinks;
      ins = run.ins;
      named = names.named catalog sound query prepared is bases handed.apart (one_node query fresh) top;
      typed = λ number block low. record {
        typed = (run.types number block low).typed;
        known = columns_known number block low;
        bounded = bounds number block low;
        outputs = (run.types number block low).outputs;
        conditions = (run.types number block low).conditions;
      };
    }
  where
    one_node : (q : Query) → IsFresh q → (a b : Sublink) → In a (sublinks_in q) → In b (sublinks_in q) → a.number ≡ b.number → a.node ≡ b.node
    one_node q fresh a b m k same = fresh.equal a b (from_in a (sublinks_in q) m) (from_in b (sublinks_in q) k) same

-- its expressions are typed over the schema of the catalogue
pub whole_schema : (catalog : Catalog) (query : Query) (prepared : Prepared) (sound : IsSound catalog) (handed : IsTyped (schema_of catalog) [] query) (typed : IsTyped (schema_of catalog) [] (folded query)) (bounded : IsBounded (schema_of catalog) [] (folded query)) (fresh : IsFresh query) (fresh_folded : IsFresh (folded query)) (no_right : HasNoRight (folded query))
    (is : IsPrepared catalog query prepared) → (whole catalog query prepared sound handed typed bounded fresh fresh_folded no_right is).schema ≡ schema_of catalog
unfolding whole
whole_schema catalog query prepared sound handed typed bounded fresh fresh_folded no_right is = refl
