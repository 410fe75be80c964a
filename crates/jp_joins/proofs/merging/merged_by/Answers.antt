use Rattle.std.proofs.Common.{◌≡◌, ◌∙◌, ap, ap₂, sym, subst, refl, filter, map, List}
use Rattle.std.specs.Prelude.{All}
use Rattle.std.specs.List.{flat_map}
use Rattle.std.specs.List.Sorted.{IsSortedBy}
use Rattle.jp_frame.specs.Maps.{Map}
use Rattle.jp_frame.specs.Methods.{sorted_by}
use Rattle.jp_joins.specs.Meant.{is_match, left_gives, list_holds}
use Rattle.jp_joins.specs.Sorting.{IsKeyed, keyed_before, map_of_keyed, merged_by, stands_before, tuple_of_keyed}
use Rattle.jp_joins.specs.Tuples.{maps_of}
use Rattle.jp_joins.specs.Working.{is_kept}
use Rattle.jp_joins.proofs.MergeFacts.{keeps_all, keys_match, tries_all}
use Rattle.jp_joins.proofs.StepFacts.{kept_is}
use Rattle.jp_joins.proofs.merging.merged_by.Goals as goal

pub walked-requires : goal.walked-requires
walked-requires g c =
    let meant = g.E.TupleEnv.meant c.args.work.now.env.now in
    let left = maps_of c.args.lefts.now in
    let right = maps_of c.args.rights.now in
    let lefts = c.as_slice-4.result.now in
    let rights = c.as_slice-5.result.now in
    let l = c.as_slice-4.ensures.value in
    let r = c.as_slice-5.ensures.value in
    let left_is : map map_of_keyed lefts ≡ sorted_by (stands_before meant c.args.first.now) left =
    ap (map map_of_keyed) l ∙ subst (λ e. map map_of_keyed c.in_ok-lefts.lefts.items ≡ sorted_by (stands_before (g.E.TupleEnv.meant e) c.args.first.now) left) c.requires.env c.in_ok-lefts.ensures.tuples in
    let right_is : map map_of_keyed rights ≡ sorted_by (stands_before meant c.args.second.now) right =
    ap (map map_of_keyed) r ∙ subst (λ e. map map_of_keyed c.in_ok-rights.rights.items ≡ sorted_by (stands_before (g.E.TupleEnv.meant e) c.args.second.now) right) c.requires.env c.in_ok-rights.ensures.tuples in
    let left_keys : All (IsKeyed meant c.args.first.now) lefts =
    subst (All (IsKeyed meant c.args.first.now)) (sym l) (subst (λ e. All (IsKeyed (g.E.TupleEnv.meant e) c.args.first.now) c.in_ok-lefts.lefts.items) c.requires.env c.in_ok-lefts.ensures.keys) in
    let right_keys : All (IsKeyed meant c.args.second.now) rights =
    subst (All (IsKeyed meant c.args.second.now)) (sym r) (subst (λ e. All (IsKeyed (g.E.TupleEnv.meant e) c.args.second.now) c.in_ok-rights.rights.items) c.requires.env c.in_ok-rights.ensures.keys) in
    let tuples : c.as_slice-6.result.now ≡ map tuple_of_keyed rights = c.as_slice-6.ensures.value ∙ c.in_ok-tuples.ensures ∙ ap (map tuple_of_keyed) (c.as_slice-3.ensures.value ∙ sym r) in
    λ k. (
      (refl, tt),
      (
        c.requires.can,
        (
          c.requires.ready,
          (
            c.requires.join.kind,
            (
              tuples,
              (
                keeps_all meant c.args.work.now.kind c.args.first.now c.args.second.now left right c.requires.join c.requires.look_up lefts rights left_is right_is left_keys right_keys,
                (
                  tries_all meant c.args.work.now.kind c.args.first.now c.args.second.now left right c.requires.join c.requires.look_up lefts rights left_is right_is left_keys right_keys c.args.work.now.known c.requires.known,
                  (
                    subst (IsSortedBy keyed_before) (sym l) c.in_ok-lefts.ensures.sorted,
                    (
                      subst (IsSortedBy keyed_before) (sym r) c.in_ok-rights.ensures.sorted,
                      keys_match meant c.args.work.now.kind c.args.first.now c.args.second.now left right c.requires.join c.requires.look_up lefts rights left_is right_is left_keys right_keys,
                    ),
                  ),
                ),
              ),
            ),
          ),
        ),
      ),
    )

pub returns : goal.returns
returns g c =
    let meant = g.E.TupleEnv.meant c.args.work.now.env.now in
    let left = maps_of c.args.lefts.now in
    let right = maps_of c.args.rights.now in
    let left_is : map map_of_keyed c.as_slice-4.result.now ≡ sorted_by (stands_before meant c.args.first.now) left =
    ap (map map_of_keyed) c.as_slice-4.ensures.value ∙ subst (λ e. map map_of_keyed c.in_ok-lefts.lefts.items ≡ sorted_by (stands_before (g.E.TupleEnv.meant e) c.args.first.now) left) c.requires.env c.in_ok-lefts.ensures.tuples in
    let right_is : map map_of_keyed c.as_slice-5.result.now ≡ sorted_by (stands_before meant c.args.second.now) right =
    ap (map map_of_keyed) c.as_slice-5.ensures.value ∙ subst (λ e. map map_of_keyed c.in_ok-rights.rights.items ≡ sorted_by (stands_before (g.E.TupleEnv.meant e) c.args.second.now) right) c.requires.env c.in_ok-rights.ensures.tuples in
    c.in_ok-list.ensures
    ∙ ap₂ (λ (ls rs : List Map). filter (is_kept meant) (flat_map (left_gives meant.kind (is_match meant) rs) ls)) left_is right_is
    ∙ sym (kept_is meant.kind (list_holds meant meant.filters) (flat_map (left_gives meant.kind (is_match meant) (sorted_by (stands_before meant c.args.second.now) right)) (sorted_by (stands_before meant c.args.first.now) left)))
    ∙ ap (λ o. merged_by meant o left right) (sym c.requires.key)
