use Rattle.std.proofs.Common.{◌≡◌, ◌++◌, drop, map, true}
use Rattle.std.specs.Prelude.{codes, string_bytes}
use Rattle.jp_explain.specs.Lines.{order_text}
use Rattle.jp_explain.specs.Lists.{separated_from}
use Rattle.jp_explain.proofs.lines.push_orders.Given as goal

abbrev pub invariant-orders : goal.invariant-orders
invariant-orders l = string_bytes l.text ++ separated_from l.first (codes ", ") (map (order_text l.names) (drop l.order-index l.orders)) ≡ string_bytes l.initial.text ++ separated_from true (codes ", ") (map (order_text l.names) l.orders)
