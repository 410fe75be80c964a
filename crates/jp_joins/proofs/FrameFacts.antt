-- The lists of the methods are those of frames.
use Rattle.std.proofs.Common.{◌≡◌, ◌∙◌, ap, sym, refl, ℕ, Bool, List, filter}
use Rattle.std.specs.Prelude.{Some}
use Rattle.std.specs.List.{flat_map}
use Rattle.jp_query.specs.declared.Expr.{Expr}
use Rattle.jp_query.specs.declared.JoinKind.{JoinKind}
use Rattle.jp_query.specs.declared.JoinKind.TheVariants as join
use Rattle.jp_frame.specs.Frames.{Frame, Kind, Left, Semi, Anti}
use Rattle.jp_frame.specs.Maps.{Map}
use Rattle.jp_frame.specs.Methods.{joined_rows, plain, right_first, sorted_by}
use Rattle.jp_frame.specs.Steps.{Inner, By}
use Rattle.jp_joins.specs.Frames.{IsSameKind}
use Rattle.jp_joins.specs.Meant.{Meant, is_match, kept, left_gives, list_holds, plain_list, right_list}
use Rattle.jp_joins.specs.Sorting.{merged_by, merged_list, stands_before}

by_kind : (k : Kind) (kind : JoinKind) (on test : Map → Bool) (left right : List Map) → IsSameKind k kind → filter test (flat_map (joined_rows k on right) left) ≡ kept kind test (flat_map (left_gives kind on right) left)
by_kind Left join.Left on test left right h = refl
by_kind Semi join.Semi on test left right h = refl
by_kind Anti join.Anti on test left right h = refl
by_kind k kind on test left right h = absurd h

pub plain_inner : (f : Frame) (meant : Meant) (left right : List Map) → meant.kind ≡ join.Inner → plain f Inner (is_match meant) left right ≡ plain_list meant left right
plain_inner f meant left right is = sym (ap (λ (k : JoinKind). kept k (list_holds meant meant.filters) (flat_map (left_gives k (is_match meant) right) left)) is)

pub plain_by : (f : Frame) (s : ℕ) (meant : Meant) (left right : List Map) → IsSameKind (f.kind s) meant.kind → f.on s ≡ is_match meant → plain f (By s) (list_holds meant meant.filters) left right ≡ plain_list meant left right
plain_by f s meant left right same on =
    ap (λ test. filter (list_holds meant meant.filters) (flat_map (joined_rows (f.kind s) test right) left)) on ∙ by_kind (f.kind s) meant.kind (is_match meant) (list_holds meant meant.filters) left right same

pub right_by : (f : Frame) (s : ℕ) (meant : Meant) (left right : List Map) → f.on s ≡ is_match meant → filter (list_holds meant meant.filters) (right_first (f.on s) left right) ≡ right_list meant left right
right_by f s meant left right on = ap (λ test. filter (list_holds meant meant.filters) (right_first test left right)) on

pub merged_is : (meant : Meant) (first second : Expr) (left right : List Map) → meant.key ≡ Some (first, second) → plain_list meant (sorted_by (stands_before meant first) left) (sorted_by (stands_before meant second) right) ≡ merged_list meant left right
merged_is meant first second left right key = sym (ap (λ o. merged_by meant o left right) key)
