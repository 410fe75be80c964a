-- The readers of ORDER BY and of whole statements are exact, where those of expressions and selects are.
use Rattle.std.proofs.Common.{◌≡◌, ℕ, zero, suc, Bool, true, false, List, [], ◌∷◌, ◌++◌, refl, sym, ap, ◌∙◌, subst, arith, true≢false}
use Rattle.jp_ast.specs.declared.tree.Ast.{Ast}
use Rattle.jp_ast.specs.declared.tree.OrderAst.{OrderAst}
use Rattle.jp_ast.specs.declared.tree.Stmt.{Stmt}
use Rattle.jp_ast.specs.declared.tree.Select.{Select}
use Rattle.jp_ast.specs.declared.class.Class.{Class}
use Rattle.jp_ast.specs.declared.class.Class.TheVariants as k
use Rattle.jp_ast.specs.Seen.{Seen}
use Rattle.jp_ast.specs.Classes.{class, first, same}
use Rattle.jp_cursor.specs.Reading.{Reader, ◌>>=◌, ◌>>◌, pure, peek, is, expect, eat, listed}
use Rattle.jp_ast.specs.Grammar.{MaybeDirection, MaybeNulls, MaybeEnd, IsExpr, IsSelect, IsItem, IsOrder, MaybeOrder, Derives}
use Rattle.jp_parse.specs.Readers.{direction_by, direction, nulls_word, nulls_by, nulls, order, orders_by, orders, statement_of, expr, item, select, statement}
use Rattle.jp_parse.proofs.Exact.{Tokens, Set, nothing, either, Within, Stops, Reads, Inhabited, within, within_self, IsPure, IsThen, Starts, reads_then, reads_by, same_language}
use Rattle.jp_parse.proofs.Samples.{is_same}
use Rattle.jp_parse.proofs.Steps.{reads_last, some_last, last_is, last, wider, Behind, behind_class, behind, some_behind, some_then, starts_maybe, MaybeWord, some_maybe, reads_eat, reads_expect, Word, some_word, reads_word, within_nothing, starts_pure, starts_then, reads_pure_in, some_chained, chain_of, of_chain, Listed, reads_listed, word_cut, word}
use Rattle.jp_parse.proofs.Sets.{more_expr, more_item, more_select, more_order, more_statement}
use Rattle.jp_parse.proofs.Least.{some-IsOrder}
use Rattle.jp_parse.proofs.ListLaws.{to-MoreOrders, of-MoreOrders}
use Rattle.jp_parse.proofs.Expressions.{reads_expr_of}
use Rattle.jp_parse.proofs.FromLaws.{reads_item_of}
use Rattle.jp_parse.proofs.Selects.{reads_select}

-- ---- the direction

abbrev more_direction : Set
more_direction k.Asc = true
more_direction k.Desc = true
more_direction c = more_expr c

abbrev DirectionBy : Class → Tokens → Bool → Type 0
DirectionBy k.Asc = Word k.Asc false
DirectionBy k.Desc = Word k.Desc true
DirectionBy _ = IsPure false

into_direction : (c : Class) (u : Tokens) (v : Bool) → DirectionBy c u v → MaybeDirection u v
into_direction k.Asc u v h = MaybeDirection.ascending h.token (word_cut k.Asc false u v h) (is_same k.Asc (class h.token) h.good) h.back.value
into_direction k.Desc u v h = MaybeDirection.descending h.token (word_cut k.Desc true u v h) (is_same k.Desc (class h.token) h.good) h.back.value
into_direction _ u v h = MaybeDirection.none h.cut h.value

no_direction : (c : Class) (u : Tokens) (v : Bool) → more_direction c ≡ false → IsPure false u v → DirectionBy c u v
no_direction k.Asc u v out h = absurd (true≢false out)
no_direction k.Desc u v out h = absurd (true≢false out)
no_direction _ u v out h = h

direction_shape : (u s : Tokens) (v : Bool) → MaybeDirection u v → Stops more_direction s → DirectionBy (first (u ++ s)) u v
direction_shape u s v (MaybeDirection.none cut value) stop = no_direction (first (u ++ s)) u v (ap (λ w. more_direction (first (w ++ s))) cut ∙ stop) (record { cut = cut; value = value })
direction_shape u s v (MaybeDirection.ascending t cut good value) stop = subst (λ c. DirectionBy c u v) (sym (ap (λ w. first (w ++ s)) cut ∙ good)) (behind k.Asc (IsPure false) u v t [] cut good (record { cut = refl; value = value }))
direction_shape u s v (MaybeDirection.descending t cut good value) stop = subst (λ c. DirectionBy c u v) (sym (ap (λ w. first (w ++ s)) cut ∙ good)) (behind k.Desc (IsPure true) u v t [] cut good (record { cut = refl; value = value }))

reads_direction : (n : ℕ) → Reads n MaybeDirection more_direction direction
unfolding direction
reads_direction n = reads_by MaybeDirection DirectionBy more_direction n direction_by into_direction direction_shape each
  where
    each : (c : Class) → Reads n (DirectionBy c) more_direction (direction_by c)
    each k.Asc = wider (Word k.Asc false) nothing more_direction n (expect k.Asc >> pure false) (within_nothing more_direction) (reads_word k.Asc false n)
    each k.Desc = wider (Word k.Desc true) nothing more_direction n (expect k.Desc >> pure true) (within_nothing more_direction) (reads_word k.Desc true n)
    each _ = reads_pure_in false more_direction n

-- ---- NULLS FIRST and NULLS LAST

data NullsWord : Tokens → Bool → Type 0 where
  first' : {u : Tokens} {v : Bool} → Word k.First true u v → NullsWord u v
  last' : {u : Tokens} {v : Bool} → Word k.Last false u v → NullsWord u v

abbrev NullsWordBy : Class → Tokens → Bool → Type 0
NullsWordBy k.First = Word k.First true
NullsWordBy _ = Word k.Last false

into_nulls_word : (c : Class) (u : Tokens) (v : Bool) → NullsWordBy c u v → NullsWord u v
into_nulls_word k.First u v h = NullsWord.first' h
into_nulls_word _ u v h = NullsWord.last' h

nulls_word_shape : (u s : Tokens) (v : Bool) → NullsWord u v → Stops nothing s → NullsWordBy (first (u ++ s)) u v
nulls_word_shape u s v (NullsWord.first' h) stop = subst (λ c. NullsWordBy c u v) (sym (behind_class k.First (IsPure true) u s v h)) h
nulls_word_shape u s v (NullsWord.last' h) stop = subst (λ c. NullsWordBy c u v) (sym (behind_class k.Last (IsPure false) u s v h)) h

reads_nulls_word : (n : ℕ) → Reads n NullsWord nothing (peek >>= nulls_word)
reads_nulls_word n = reads_by NullsWord NullsWordBy nothing n nulls_word into_nulls_word nulls_word_shape each
  where
    each : (c : Class) → Reads n (NullsWordBy c) nothing (nulls_word c)
    each k.First = reads_word k.First true n
    each _ = reads_word k.Last false n

some_nulls_word : Inhabited NullsWord
some_nulls_word = let s = some_word k.First true in (s.0, s.1, NullsWord.first' s.2)

abbrev NullsOf : Bool → Tokens → Bool → Type 0
NullsOf desc u v = MaybeNulls u desc v

abbrev NullsBy : Bool → Class → Tokens → Bool → Type 0
NullsBy desc k.Nulls = Behind k.Nulls NullsWord
NullsBy desc _ = IsPure desc

nulls_from : (desc : Bool) (u : Tokens) (v : Bool) (t : Seen) (w : Tokens) → u ≡ t ∷ w → class t ≡ k.Nulls → NullsWord w v → NullsOf desc u v
nulls_from desc u v t w cut good (NullsWord.first' h) = MaybeNulls.first t h.token (cut ∙ ap (λ x. t ∷ x) (word_cut k.First true w v h)) good (is_same k.First (class h.token) h.good) h.back.value
nulls_from desc u v t w cut good (NullsWord.last' h) = MaybeNulls.last t h.token (cut ∙ ap (λ x. t ∷ x) (word_cut k.Last false w v h)) good (is_same k.Last (class h.token) h.good) h.back.value

into_nulls : (desc : Bool) (c : Class) (u : Tokens) (v : Bool) → NullsBy desc c u v → NullsOf desc u v
into_nulls desc k.Nulls u v h = nulls_from desc u v h.token h.rest h.cut (is_same k.Nulls (class h.token) h.good) h.back
into_nulls desc _ u v h = MaybeNulls.none h.cut h.value

no_nulls : (desc : Bool) (c : Class) (u : Tokens) (v : Bool) → more_order c ≡ false → IsPure desc u v → NullsBy desc c u v
no_nulls desc k.Nulls u v out h = absurd (true≢false out)
no_nulls desc _ u v out h = h

nulls_shape : (desc : Bool) (u s : Tokens) (v : Bool) → NullsOf desc u v → Stops more_order s → NullsBy desc (first (u ++ s)) u v
nulls_shape desc u s v (MaybeNulls.none cut value) stop = no_nulls desc (first (u ++ s)) u v (ap (λ w. more_order (first (w ++ s))) cut ∙ stop) (record { cut = cut; value = value })
nulls_shape desc u s v (MaybeNulls.first word' t cut good first_is value) stop = subst (λ c. NullsBy desc c u v) (sym (ap (λ w. first (w ++ s)) cut ∙ good)) (behind k.Nulls NullsWord u v word' (t ∷ []) cut good (NullsWord.first' (word k.First true t v first_is value)))
nulls_shape desc u s v (MaybeNulls.last word' t cut good last_is value) stop = subst (λ c. NullsBy desc c u v) (sym (ap (λ w. first (w ++ s)) cut ∙ good)) (behind k.Nulls NullsWord u v word' (t ∷ []) cut good (NullsWord.last' (word k.Last false t v last_is value)))

reads_nulls : (n : ℕ) (desc : Bool) → Reads n (NullsOf desc) more_order (nulls desc)
unfolding nulls
reads_nulls n desc = reads_by (NullsOf desc) (NullsBy desc) more_order n (nulls_by desc) (into_nulls desc) (nulls_shape desc) each
  where
    each : (c : Class) → Reads n (NullsBy desc c) more_order (nulls_by desc c)
    each k.Nulls = wider (Behind k.Nulls NullsWord) nothing more_order n (expect k.Nulls >> (peek >>= nulls_word)) (within_nothing more_order) (reads_expect k.Nulls NullsWord nothing n (peek >>= nulls_word) some_nulls_word (reads_nulls_word n))
    each _ = reads_pure_in desc more_order n

-- ---- a key

abbrev key_of : Ast → Bool → Bool → OrderAst
key_of a desc nulls_first = record { expr = a; desc = desc; nulls_first = nulls_first }

abbrev NullsPart : Ast → Bool → Tokens → OrderAst → Type 0
NullsPart a desc = IsThen (NullsOf desc) (λ n. IsPure (key_of a desc n))

abbrev DirectionPart : Ast → Tokens → OrderAst → Type 0
DirectionPart a = IsThen MaybeDirection (NullsPart a)

abbrev OrderLike : Tokens → OrderAst → Type 0
OrderLike = IsThen IsExpr DirectionPart

into_order : (u : Tokens) (v : OrderAst) → OrderLike u v → IsOrder u v
into_order u v h =
    let d = h.back in
    let n = d.back in
    IsOrder.order h.left d.left d.right h.value d.value n.value (h.cut ∙ ap (λ x. h.left ++ x) d.cut) h.front d.front (last_is (NullsOf d.value) (key_of h.value d.value) d.right v n) n.back.value

of_order : (u : Tokens) (v : OrderAst) → IsOrder u v → OrderLike u v
of_order u v (IsOrder.order x d n a desc nulls_first cut is direction' maybe value) =
    record { left = x; right = d ++ n; value = a; cut = cut; front = is; back = record { left = d; right = n; value = desc; cut = refl; front = direction'; back = last (NullsOf desc) (key_of a desc) n nulls_first v maybe value } }

expr_direction : Within more_expr more_direction
expr_direction k.Asc = refl
expr_direction _ = refl

direction_order : Within more_direction more_order
direction_order k.Nulls = refl
direction_order _ = refl

starts_direction : {A : Type 0} → Starts more_expr (λ (a : A). MaybeDirection) more_direction
starts_direction a w s v (MaybeDirection.none cut value) stop = ap (λ x. more_expr (first (x ++ s))) cut ∙ within more_expr more_direction (first s) expr_direction stop
starts_direction a w s v (MaybeDirection.ascending t cut good value) stop = ap (λ x. more_expr (first (x ++ s))) cut ∙ ap more_expr good
starts_direction a w s v (MaybeDirection.descending t cut good value) stop = ap (λ x. more_expr (first (x ++ s))) cut ∙ ap more_expr good

starts_nulls : Starts more_direction NullsOf more_order
starts_nulls desc w s v (MaybeNulls.none cut value) stop = ap (λ x. more_direction (first (x ++ s))) cut ∙ within more_direction more_order (first s) direction_order stop
starts_nulls desc w s v (MaybeNulls.first word' t cut good first_is value) stop = ap (λ x. more_direction (first (x ++ s))) cut ∙ ap more_direction good
starts_nulls desc w s v (MaybeNulls.last word' t cut good last_is value) stop = ap (λ x. more_direction (first (x ++ s))) cut ∙ ap more_direction good

some_nulls : (a : Ast) (desc : Bool) → Inhabited (NullsPart a desc)
some_nulls a desc = some_last (NullsOf desc) (key_of a desc) ([], desc, MaybeNulls.none refl refl)

some_direction : (a : Ast) → Inhabited (DirectionPart a)
some_direction a = some_then MaybeDirection (NullsPart a) ([], false, MaybeDirection.none refl refl) (some_nulls a)

reads_order : (E : Reader Ast) (n : ℕ) → Reads n IsExpr more_expr E → Reads n IsOrder more_order (order E)
unfolding order
reads_order E n law =
    same_language OrderLike IsOrder more_order more_order n (order E) into_order of_order (within_self more_order)
    (reads_then IsExpr DirectionPart more_expr more_order n E (λ a. direction >>= (λ desc. nulls desc >>= (λ m. pure (key_of a desc m))))
    (starts_then more_expr more_direction more_order (λ a. MaybeDirection) NullsPart starts_direction (λ a. starts_then more_direction more_order more_order NullsOf (λ desc m. IsPure (key_of a desc m)) starts_nulls (λ desc. starts_pure more_order (key_of a desc)))) some_direction law
    (λ a. reads_then MaybeDirection (NullsPart a) more_direction more_order n direction (λ desc. nulls desc >>= (λ m. pure (key_of a desc m)))
    (starts_then more_direction more_order more_order NullsOf (λ desc m. IsPure (key_of a desc m)) starts_nulls (λ desc. starts_pure more_order (key_of a desc))) (some_nulls a) (reads_direction n)
    (λ desc. reads_last (NullsOf desc) more_order more_order n (nulls desc) (key_of a desc) (within_self more_order) (reads_nulls n desc))))

-- ---- ORDER BY

abbrev more_orders : Set
more_orders k.Order = true
more_orders k.Asc = true
more_orders k.Desc = true
more_orders k.Nulls = true
more_orders c = more_select c

abbrev OrdersBy : Class → Tokens → List OrderAst → Type 0
OrdersBy k.Order = Behind k.Order (Behind k.By (Listed IsOrder))
OrdersBy _ = IsPure []

into_orders : (c : Class) (u : Tokens) (v : List OrderAst) → OrdersBy c u v → MaybeOrder u v
into_orders k.Order u v h =
    let b = h.back in
    let c = chain_of IsOrder (Behind k.Comma IsOrder) (λ a more. a ∷ more) b.rest v b.back in
    MaybeOrder.some h.token b.token c.left c.right c.value c.list (h.cut ∙ ap (λ x. h.token ∷ x) (b.cut ∙ ap (λ x. b.token ∷ x) c.cut)) (is_same k.Order (class h.token) h.good) (is_same k.By (class b.token) b.good) c.front (to-MoreOrders c.right c.list c.many) c.all
into_orders _ u v h = MaybeOrder.none h.cut h.value

no_orders : (c : Class) (u : Tokens) (v : List OrderAst) → more_orders c ≡ false → IsPure [] u v → OrdersBy c u v
no_orders k.Order u v out h = absurd (true≢false out)
no_orders _ u v out h = h

orders_shape : (u s : Tokens) (v : List OrderAst) → MaybeOrder u v → Stops more_orders s → OrdersBy (first (u ++ s)) u v
orders_shape u s v (MaybeOrder.none cut value) stop = no_orders (first (u ++ s)) u v (ap (λ w. more_orders (first (w ++ s))) cut ∙ stop) (record { cut = cut; value = value })
orders_shape u s v (MaybeOrder.some word' by x w a list cut good by_is is others all) stop =
    subst (λ c. OrdersBy c u v) (sym (ap (λ y. first (y ++ s)) cut ∙ good))
    (behind k.Order (Behind k.By (Listed IsOrder)) u v word' (by ∷ (x ++ w)) cut good (behind k.By (Listed IsOrder) (by ∷ (x ++ w)) v by (x ++ w) refl by_is (of_chain IsOrder (Behind k.Comma IsOrder) (λ b bs. b ∷ bs) (x ++ w) x w a list v refl is (of-MoreOrders w list others) all)))

orders_within : Within (either more_order (is k.Comma)) more_orders
unfolding same
orders_within k.Comma = refl
orders_within _ = refl

some_listed : Inhabited (Listed IsOrder)
some_listed = some_chained IsOrder (Behind k.Comma IsOrder) (λ a more. a ∷ more) some-IsOrder

reads_orders : (E : Reader Ast) (n : ℕ) → Reads n IsExpr more_expr E → Reads n MaybeOrder more_orders (orders E)
unfolding orders
reads_orders E n law = reads_by MaybeOrder OrdersBy more_orders n (orders_by E) into_orders orders_shape each
  where
    each : (c : Class) → Reads n (OrdersBy c) more_orders (orders_by E c)
    each k.Order = reads_expect k.Order (Behind k.By (Listed IsOrder)) more_orders n (expect k.By >> listed (order E)) (some_behind k.By (Listed IsOrder) some_listed)
        (reads_expect k.By (Listed IsOrder) more_orders n (listed (order E)) some_listed (wider (Listed IsOrder) (either more_order (is k.Comma)) more_orders n (listed (order E)) orders_within (reads_listed IsOrder more_order n (order E) refl some-IsOrder (reads_order E n law))))
    each _ = reads_pure_in [] more_orders n

-- ---- the statement

abbrev statement_node : Select → List OrderAst → Stmt
statement_node s list = record { select = s; order = list }

abbrev EndPart : Select → List OrderAst → Tokens → Stmt → Type 0
EndPart s list = IsThen (MaybeWord k.Semicolon) (λ _. IsPure (statement_node s list))

abbrev OrdersPart : Select → Tokens → Stmt → Type 0
OrdersPart s = IsThen MaybeOrder (EndPart s)

abbrev StatementLike : Tokens → Stmt → Type 0
StatementLike = IsThen IsSelect OrdersPart

maybe_end : (u : Tokens) (b : Bool) → MaybeWord k.Semicolon u b → MaybeEnd u
maybe_end u b (MaybeWord.none cut value) = MaybeEnd.none cut
maybe_end u b (MaybeWord.given t cut good value) = MaybeEnd.symbol t cut good

end_maybe : (u : Tokens) → MaybeEnd u → (b : Bool) × MaybeWord k.Semicolon u b
end_maybe u (MaybeEnd.none cut) = (false, MaybeWord.none cut refl)
end_maybe u (MaybeEnd.symbol t cut good) = (true, MaybeWord.given t cut good refl)

into_statement : (u : Tokens) (v : Stmt) → StatementLike u v → Derives u v
into_statement u v h =
    let o = h.back in
    let e = o.back in
    Derives.statement h.left o.left o.right h.value o.value (h.cut ∙ ap (λ x. h.left ++ x) o.cut) h.front o.front (maybe_end o.right e.value (last_is (MaybeWord k.Semicolon) (λ _. statement_node h.value o.value) o.right v e)) e.back.value

of_statement : (u : Tokens) (v : Stmt) → Derives u v → StatementLike u v
of_statement u v (Derives.statement x o e s list cut is_select maybe end value) =
    let b = end_maybe e end in
    record { left = x; right = o ++ e; value = s; cut = cut; front = is_select; back = record { left = o; right = e; value = list; cut = refl; front = maybe; back = last (MaybeWord k.Semicolon) (λ _. statement_node s list) e b.0 v b.1 value } }

select_orders : Within more_select more_orders
select_orders k.Order = refl
select_orders _ = refl

orders_statement : Within more_orders more_statement
orders_statement k.Semicolon = refl
orders_statement _ = refl

end_statement : Within (is k.Semicolon) more_statement
unfolding same
end_statement k.Semicolon = refl
end_statement _ = refl

end_token : is k.Semicolon k.Nothing ≡ false
unfolding same
end_token = refl

starts_orders : {A : Type 0} → Starts more_select (λ (a : A). MaybeOrder) more_orders
starts_orders a w s v (MaybeOrder.none cut value) stop = ap (λ x. more_select (first (x ++ s))) cut ∙ within more_select more_orders (first s) select_orders stop
starts_orders a w s v (MaybeOrder.some word' by x y b list cut good by_is is others all) stop = ap (λ z. more_select (first (z ++ s))) cut ∙ ap more_select good

starts_end_part : (s : Select) → Starts more_orders (EndPart s) more_statement
starts_end_part s = starts_then more_orders more_statement more_statement (λ list. MaybeWord k.Semicolon) (λ list _. IsPure (statement_node s list)) (λ list w r b h stop. starts_maybe k.Semicolon more_orders more_statement refl orders_statement w r b h stop) (λ list. starts_pure more_statement (λ _. statement_node s list))

some_end : (s : Select) (list : List OrderAst) → Inhabited (EndPart s list)
some_end s list = some_last (MaybeWord k.Semicolon) (λ _. statement_node s list) (some_maybe k.Semicolon)

some_orders : (s : Select) → Inhabited (OrdersPart s)
some_orders s = some_then MaybeOrder (EndPart s) ([], [], MaybeOrder.none refl refl) (some_end s)

reads_statement_of : (E : Reader Ast) (Q : Reader Select) (n : ℕ) → Reads n IsExpr more_expr E → Reads n IsSelect more_select Q → Reads n Derives more_statement (statement_of E Q)
unfolding statement_of
reads_statement_of E Q n expr_law select_law =
    same_language StatementLike Derives more_statement more_statement n (statement_of E Q) into_statement of_statement (within_self more_statement)
    (reads_then IsSelect OrdersPart more_select more_statement n Q (λ s. orders E >>= (λ list. eat k.Semicolon >>= (λ _. pure (statement_node s list)))) (starts_then more_select more_orders more_statement (λ s. MaybeOrder) EndPart starts_orders starts_end_part) some_orders select_law
    (λ s. reads_then MaybeOrder (EndPart s) more_orders more_statement n (orders E) (λ list. eat k.Semicolon >>= (λ _. pure (statement_node s list))) (starts_end_part s) (some_end s) (reads_orders E n expr_law)
    (λ list. reads_last (MaybeWord k.Semicolon) (is k.Semicolon) more_statement n (eat k.Semicolon) (λ _. statement_node s list) end_statement (reads_eat k.Semicolon end_token n))))

-- ---- the inner rules, by the number of tokens

record Inner (n : ℕ) : Type 0 where
  expr_law : Reads n IsExpr more_expr (expr n)
  item_law : Reads n IsItem more_item (item n)
  select_law : Reads n IsSelect more_select (select n)

inner : (n : ℕ) → Inner n
unfolding expr
inner zero = record { expr_law = λ ts few. absurd (omega (arith, few)); item_law = λ ts few. absurd (omega (arith, few)); select_law = λ ts few. absurd (omega (arith, few)) }
inner (suc n) =
    let h = inner n in
    record {
      expr_law = reads_expr_of (expr n) (select n) n h.expr_law h.select_law;
      item_law = reads_item_of (expr n) (select n) (item n) n h.expr_law h.select_law h.item_law;
      select_law = reads_select (expr n) (item n) n h.expr_law h.item_law;
    }

pub reads_statement : (n : ℕ) → Reads n Derives more_statement (statement n)
unfolding statement
reads_statement n = let h = inner n in reads_statement_of (expr n) (select n) n h.expr_law h.select_law
