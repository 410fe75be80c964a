-- The tokens that begin the lists of each rule, and those that may go on with one.
use Rattle.std.proofs.Common.{true, false}
use Rattle.jp_ast.specs.declared.class.Class.TheVariants as k
use Rattle.jp_ast.specs.Classes.{is_name}
use Rattle.jp_parse.proofs.Exact.{Set}

-- ---- what begins

abbrev pub begins_atom : Set
begins_atom k.Number = true
begins_atom k.Text = true
begins_atom k.True = true
begins_atom k.False = true
begins_atom k.Null = true
begins_atom k.Open = true
begins_atom k.Exists = true
begins_atom k.Coalesce = true
begins_atom k.Case = true
begins_atom c = is_name c

abbrev pub begins_sign : Set
begins_sign k.Plus = true
begins_sign k.Minus = true
begins_sign c = begins_atom c

abbrev pub begins_expr : Set
begins_expr k.Not = true
begins_expr c = begins_sign c

abbrev pub begins_primary : Set
begins_primary k.Open = true
begins_primary c = is_name c

abbrev pub begins_alias : Set
begins_alias k.As = true
begins_alias c = is_name c

abbrev pub begins_target : Set
begins_target k.Star = true
begins_target c = begins_expr c

-- ---- what goes on

abbrev pub more_atom : Set
more_atom k.Dot = true
more_atom _ = false

abbrev pub more_product : Set
more_product k.Star = true
more_product c = more_atom c

abbrev pub more_sum : Set
more_sum k.Plus = true
more_sum k.Minus = true
more_sum c = more_product c

abbrev pub more_cat : Set
more_cat k.Bars = true
more_cat c = more_sum c

abbrev pub more_range : Set
more_range k.Not = true
more_range k.Between = true
more_range k.In = true
more_range c = more_cat c

abbrev pub more_compare : Set
more_compare k.Eq = true
more_compare k.Ne = true
more_compare k.Lt = true
more_compare k.Le = true
more_compare k.Gt = true
more_compare k.Ge = true
more_compare c = more_range c

abbrev pub more_test : Set
more_test k.Is = true
more_test c = more_compare c

abbrev pub more_and : Set
more_and k.And = true
more_and c = more_test c

abbrev pub more_expr : Set
more_expr k.Or = true
more_expr c = more_and c

abbrev pub more_target : Set
more_target k.As = true
more_target k.Name = true
more_target k.By = true
more_target k.Nulls = true
more_target k.First = true
more_target k.Last = true
more_target k.Unknown = true
more_target c = more_expr c

-- a join may end with a condition
abbrev pub more_item : Set
more_item k.Cross = true
more_item k.Inner = true
more_item k.Left = true
more_item k.Right = true
more_item k.Full = true
more_item k.Join = true
more_item c = more_target c

abbrev pub more_select : Set
more_select k.Comma = true
more_select k.Where = true
more_select c = more_item c

abbrev pub more_order : Set
more_order k.Asc = true
more_order k.Desc = true
more_order k.Nulls = true
more_order c = more_expr c

abbrev pub more_statement : Set
more_statement k.Order = true
more_statement k.Semicolon = true
more_statement k.Asc = true
more_statement k.Desc = true
more_statement k.Nulls = true
more_statement c = more_select c
