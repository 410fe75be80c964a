-- The readers of FROM items are exact, where those of inner expressions, selects and items are.
use Rattle.std.proofs.Common.{◌≡◌, ℕ, suc, Bool, true, false, if◌then◌else◌, List, [], ◌∷◌, ◌++◌, Option, None, Some, refl, sym, ap, ◌∙◌, subst, append_assoc, true≢false}
use Rattle.jp_ast.specs.declared.tree.Ast.{Ast}
use Rattle.jp_ast.specs.declared.tree.FromItem.{FromItem}
use Rattle.jp_ast.specs.declared.tree.FromItem.TheVariants as from
use Rattle.jp_ast.specs.declared.tree.Select.{Select}
use Rattle.jp_ast.specs.declared.tree.JoinWord.{JoinWord}
use Rattle.jp_ast.specs.declared.tree.JoinWord.TheVariants as join
use Rattle.jp_ast.specs.declared.class.Class.{Class}
use Rattle.jp_ast.specs.declared.class.Class.TheVariants as k
use Rattle.jp_ast.specs.Seen.{Seen, place}
use Rattle.jp_ast.specs.Classes.{class, first, same, is_name}
use Rattle.jp_ast.specs.Nodes.{Joined, join_chain}
use Rattle.jp_cursor.specs.Reading.{Reader, ◌>>=◌, ◌>>◌, pure, peek, is, expect, no_meaning, content_in, name, eat, many, begins_join}
use Rattle.jp_ast.specs.Grammar.{MaybeAlias, MaybeOuter, MaybeSide, IsExpr, IsSelect, IsPrimary, IsJoin, IsItem}
use Rattle.jp_parse.specs.Readers.{alias_by, alias, table, sub, grouped, inside_by, in_parens, primary_by, primary, outer_side, inner_side, side_by, side, crossed, sided, join_by, join_of, item_of}
use Rattle.jp_parse.proofs.Exact.{Tokens, Set, nothing, either, Apart, Within, Stops, apart, Reads, Inhabited, within, within_self, IsPure, IsThen, Starts, reads_then, reads_by, IsEither, Many, begins_first, begins_some, reads_pure, same_language}
use Rattle.jp_parse.proofs.Samples.{is_same}
use Rattle.jp_parse.proofs.Steps.{reads_last, some_last, last_is, last, reads_closed, some_closed, fewer, wider, Behind, behind, some_behind, starts_behind, MaybeWord, some_maybe, reads_eat, reads_enter, reads_expect, Word, reads_word, Named, some_named, reads_named, some_pure, Shifts, shift_pure, shift_after, shift_then, shift_behind, shift_chained, long_after, long_then, Placed, reads_placed, within_nothing, reads_pure_in, Chained, reads_chained, chain_of, of_chain, word_cut, word}
use Rattle.jp_parse.proofs.Sets.{begins_primary, begins_alias, more_expr, more_target, more_item, more_select}
use Rattle.jp_parse.proofs.FirstTokens.{begins-IsPrimary, begins-IsJoin, begins-IsItem, begins-IsSelect}
use Rattle.jp_parse.proofs.Least.{some-IsExpr, some-IsPrimary, some-IsJoin, some-IsItem}
use Rattle.jp_parse.proofs.ListLaws.{to-MoreJoins, of-MoreJoins}

-- ---- an alias

abbrev BareAlias : Tokens → Option (List ℕ) → Type 0
BareAlias = Named (λ n. IsPure (Some n))

abbrev AliasBy : Class → Tokens → Option (List ℕ) → Type 0
AliasBy k.As = Behind k.As BareAlias
AliasBy c = IsEither BareAlias (IsPure None) (is_name c)

into_bare : (b : Bool) (u : Tokens) (v : Option (List ℕ)) → IsEither BareAlias (IsPure None) b u v → MaybeAlias u v
into_bare true u v h = MaybeAlias.bare h.token (h.cut ∙ ap (λ w. h.token ∷ w) h.back.cut) h.good h.back.value
into_bare false u v h = MaybeAlias.none h.cut h.value

into_alias : (c : Class) (u : Tokens) (v : Option (List ℕ)) → AliasBy c u v → MaybeAlias u v
into_alias k.As u v h = MaybeAlias.named h.token h.back.token (h.cut ∙ ap (λ w. h.token ∷ w) (h.back.cut ∙ ap (λ w. h.back.token ∷ w) h.back.back.cut)) (is_same k.As (class h.token) h.good) h.back.good h.back.back.value
into_alias c u v h = into_bare (is_name c) u v h

either_none : (b : Bool) (u : Tokens) (v : Option (List ℕ)) → b ≡ false → IsPure None u v → IsEither BareAlias (IsPure None) b u v
either_none true u v out h = absurd (true≢false out)
either_none false u v out h = h

either_bare : (b : Bool) (u : Tokens) (v : Option (List ℕ)) → b ≡ true → BareAlias u v → IsEither BareAlias (IsPure None) b u v
either_bare true u v good h = h
either_bare false u v good h = absurd (true≢false (sym good))

alias_none : (c : Class) (u : Tokens) (v : Option (List ℕ)) → begins_alias c ≡ false → IsPure None u v → AliasBy c u v
alias_none k.As u v out h = absurd (true≢false out)
alias_none c u v out h = either_none (is_name c) u v out h

alias_bare : (c : Class) (u : Tokens) (v : Option (List ℕ)) → is_name c ≡ true → BareAlias u v → AliasBy c u v
alias_bare k.As u v good h = absurd (true≢false (sym good))
alias_bare c u v good h = either_bare (is_name c) u v good h

alias_shape : (u s : Tokens) (v : Option (List ℕ)) → MaybeAlias u v → Stops begins_alias s → AliasBy (first (u ++ s)) u v
alias_shape u s v (MaybeAlias.none cut value) stop = alias_none (first (u ++ s)) u v (ap (λ w. begins_alias (first (w ++ s))) cut ∙ stop) (record { cut = cut; value = value })
alias_shape u s v (MaybeAlias.bare t cut good value) stop = alias_bare (first (u ++ s)) u v (ap (λ w. is_name (first (w ++ s))) cut ∙ good) (record { token = t; rest = []; cut = cut; good = good; back = record { cut = refl; value = value } })
alias_shape u s v (MaybeAlias.named word' t cut good name_is value) stop =
    subst (λ c. AliasBy c u v) (sym (ap (λ w. first (w ++ s)) cut ∙ good)) (behind k.As BareAlias u v word' (t ∷ []) cut good (record { token = t; rest = []; cut = refl; good = name_is; back = record { cut = refl; value = value } }))

some_bare : Inhabited BareAlias
some_bare = some_named (λ n. IsPure (Some n)) (λ n. some_pure (Some n))

reads_bare : (n : ℕ) → Reads n BareAlias begins_alias (name >>= (λ m. pure (Some m)))
reads_bare n = wider BareAlias nothing begins_alias n (name >>= (λ m. pure (Some m))) (within_nothing begins_alias) (fewer BareAlias nothing n (name >>= (λ m. pure (Some m))) (reads_named (λ m. IsPure (Some m)) nothing n (λ m. pure (Some m)) (λ m. some_pure (Some m)) (λ m. reads_pure (Some m) n)))

pub reads_alias : (n : ℕ) → Reads n MaybeAlias begins_alias alias
unfolding alias
reads_alias n = reads_by MaybeAlias AliasBy begins_alias n alias_by into_alias alias_shape each
  where
    each_bare : (b : Bool) → Reads n (IsEither BareAlias (IsPure None) b) begins_alias (if b then (name >>= (λ m. pure (Some m))) else pure None)
    each_bare true = reads_bare n
    each_bare false = reads_pure_in None begins_alias n

    each : (c : Class) → Reads n (AliasBy c) begins_alias (alias_by c)
    each k.As = reads_expect k.As BareAlias begins_alias n (name >>= (λ m. pure (Some m))) some_bare (reads_bare n)
    each c = each_bare (is_name c)

pub some_alias : Inhabited MaybeAlias
some_alias = ([], None, MaybeAlias.none refl refl)

pub starts_alias : {A : Type 0} (X Y : Set) → Apart begins_alias X → Within X Y → Starts X (λ (a : A). MaybeAlias) Y
starts_alias X Y free wide a w s v (MaybeAlias.none cut value) stop = ap (λ x. X (first (x ++ s))) cut ∙ within X Y (first s) wide stop
starts_alias X Y free wide a w s v (MaybeAlias.bare t cut good value) stop = ap (λ x. X (first (x ++ s))) cut ∙ apart begins_alias X (class t) free (name_alias (class t) good)
  where
    name_alias : (c : Class) → is_name c ≡ true → begins_alias c ≡ true
    name_alias k.As good = refl
    name_alias _ good = good
starts_alias X Y free wide a w s v (MaybeAlias.named word' t cut good name_is value) stop = ap (λ x. X (first (x ++ s))) cut ∙ apart begins_alias X (class word') free (ap begins_alias good)

-- ---- a member of FROM

abbrev TableAt : ℕ → Tokens → FromItem → Type 0
TableAt p = Named (λ n. IsThen MaybeAlias (λ a. IsPure (from.Table n a p)))

reads_table : (n : ℕ) → Reads (suc n) (Placed TableAt) begins_alias table
unfolding table
reads_table n =
    reads_placed TableAt begins_alias (suc n) (λ at. name >>= (λ m. alias >>= (λ a. pure (from.Table m a at)))) (λ p. long_after is_name content_in (λ m. IsThen MaybeAlias (λ a. IsPure (from.Table m a p))))
    (shift_after is_name content_in (λ p m. IsThen MaybeAlias (λ a. IsPure (from.Table m a p))) (λ m. shift_then MaybeAlias (λ p a. IsPure (from.Table m a p)) (λ a. shift_pure (λ p. from.Table m a p))))
    (λ p. reads_named (λ m. IsThen MaybeAlias (λ a. IsPure (from.Table m a p))) begins_alias n (λ m. alias >>= (λ a. pure (from.Table m a p))) (λ m. some_last MaybeAlias (λ a. from.Table m a p) some_alias)
    (λ m. reads_last MaybeAlias begins_alias begins_alias n alias (λ a. from.Table m a p) (within_self begins_alias) (reads_alias n)))

abbrev SubAt : ℕ → Tokens → FromItem → Type 0
SubAt p = IsThen IsSelect (λ s. Behind k.Close (IsThen MaybeAlias (λ a. IsPure (from.Sub s a p))))

abbrev GroupedLike : Tokens → FromItem → Type 0
GroupedLike = IsThen IsItem (λ i. Word k.Close i)

data Inside (p : ℕ) : Tokens → FromItem → Type 0 where
  select : {u : Tokens} {v : FromItem} → SubAt p u v → Inside p u v
  item : {u : Tokens} {v : FromItem} → GroupedLike u v → Inside p u v

abbrev InsideBy : ℕ → Class → Tokens → FromItem → Type 0
InsideBy p k.Select = SubAt p
InsideBy p _ = GroupedLike

into_inside : (p : ℕ) (c : Class) (u : Tokens) (v : FromItem) → InsideBy p c u v → Inside p u v
into_inside p k.Select u v h = Inside.select h
into_inside p _ u v h = Inside.item h

inside_item : (p : ℕ) (c : Class) (u : Tokens) (v : FromItem) → begins_primary c ≡ true → GroupedLike u v → InsideBy p c u v
inside_item p k.Select u v good h = absurd (true≢false (sym good))
inside_item p _ u v good h = h

inside_shape : (p : ℕ) (u s : Tokens) (v : FromItem) → Inside p u v → Stops begins_alias s → InsideBy p (first (u ++ s)) u v
inside_shape p u s v (Inside.select h) stop = subst (λ c. InsideBy p c u v) (sym (ap first (ap (λ w. w ++ s) h.cut ∙ append_assoc h.left h.right s) ∙ is_same k.Select (first (h.left ++ (h.right ++ s))) (begins_first (is k.Select) IsSelect h.left (h.right ++ s) h.value begins-IsSelect h.front))) h
inside_shape p u s v (Inside.item h) stop = inside_item p (first (u ++ s)) u v (ap (λ w. begins_primary (first w)) (ap (λ w. w ++ s) h.cut ∙ append_assoc h.left h.right s) ∙ begins_first begins_primary IsItem h.left (h.right ++ s) h.value begins-IsItem h.front) h

shift_inside : Shifts Inside
shift_inside p q u v (Inside.select h) = let moved = shift_then IsSelect (λ p s. Behind k.Close (IsThen MaybeAlias (λ a. IsPure (from.Sub s a p)))) (λ s. shift_behind k.Close (λ p. IsThen MaybeAlias (λ a. IsPure (from.Sub s a p))) (shift_then MaybeAlias (λ p a. IsPure (from.Sub s a p)) (λ a. shift_pure (λ p. from.Sub s a p)))) p q u v h in (moved.0, Inside.select moved.1)
shift_inside p q u v (Inside.item h) = (v, Inside.item h)

some_aliased : (p : ℕ) (s : Select) → Inhabited (IsThen MaybeAlias (λ a. IsPure (from.Sub s a p)))
some_aliased p s = some_last MaybeAlias (λ a. from.Sub s a p) some_alias

some_inside : (p : ℕ) → Inhabited (Inside p)
some_inside p = let s = some_closed IsItem k.Close (λ i. IsPure i) some-IsItem (λ i. some_pure i) in (s.0, s.1, Inside.item s.2)

abbrev ParenAt : ℕ → Tokens → FromItem → Type 0
ParenAt p = Behind k.Open (Inside p)

abbrev PrimaryBy : Class → Tokens → FromItem → Type 0
PrimaryBy k.Open = Placed ParenAt
PrimaryBy _ = Placed TableAt

into_paren : (u : Tokens) (v : FromItem) (t : Seen) (w : Tokens) (p : ℕ) → u ≡ t ∷ w → class t ≡ k.Open → p ≡ t.at → Inside p w v → IsPrimary u v
into_paren u v t w p cut good at (Inside.select h) =
    let c = h.back in
    IsPrimary.sub t h.left h.value c.token c.rest c.back.value (cut ∙ ap (λ x. t ∷ x) (h.cut ∙ ap (λ x. h.left ++ x) c.cut)) good h.front (is_same k.Close (class c.token) c.good) (last_is MaybeAlias (λ a. from.Sub h.value a p) c.rest v c.back) (c.back.back.value ∙ ap (λ x. from.Sub h.value c.back.value x) at)
into_paren u v t w p cut good at (Inside.item h) =
    let c = h.back in
    IsPrimary.grouped t h.left c.token (cut ∙ ap (λ x. t ∷ x) (h.cut ∙ ap (λ x. h.left ++ x) (word_cut k.Close h.value h.right v c))) good (subst (IsItem h.left) (sym c.back.value) h.front) (is_same k.Close (class c.token) c.good)

into_primary : (c : Class) (u : Tokens) (v : FromItem) → PrimaryBy c u v → IsPrimary u v
into_primary k.Open u v h = into_paren u v h.token h.rest (place u) h.cut (is_same k.Open (class h.token) h.good) (ap place h.cut) h.back
into_primary _ u v h = IsPrimary.table h.token h.rest h.back.value h.cut h.good (last_is MaybeAlias (λ a. from.Table h.token.content a (place u)) h.rest v h.back) (h.back.back.value ∙ ap (λ x. from.Table h.token.content h.back.value x) (ap place h.cut))

primary_table : (c : Class) (u : Tokens) (v : FromItem) → is_name c ≡ true → Placed TableAt u v → PrimaryBy c u v
primary_table k.Open u v good h = absurd (true≢false (sym good))
primary_table _ u v good h = h

primary_shape : (u s : Tokens) (v : FromItem) → IsPrimary u v → Stops begins_alias s → PrimaryBy (first (u ++ s)) u v
primary_shape u s v (IsPrimary.table t w a cut good maybe value) stop = primary_table (first (u ++ s)) u v (ap (λ x. is_name (first (x ++ s))) cut ∙ good)
    (record { token = t; rest = w; cut = cut; good = good; back = last MaybeAlias (λ x. from.Table t.content x (place u)) w a v maybe (value ∙ ap (λ x. from.Table t.content a x) (sym (ap place cut))) })
primary_shape u s v (IsPrimary.sub left x q right w a cut good inside close maybe value) stop =
    subst (λ c. PrimaryBy c u v) (sym (ap (λ y. first (y ++ s)) cut ∙ good))
    (behind k.Open (Inside (place u)) u v left (x ++ (right ∷ w)) cut good
    (Inside.select (record { left = x; right = right ∷ w; value = q; cut = refl; front = inside; back = behind k.Close (IsThen MaybeAlias (λ y. IsPure (from.Sub q y (place u)))) (right ∷ w) v right w refl close (last MaybeAlias (λ y. from.Sub q y (place u)) w a v maybe (value ∙ ap (λ y. from.Sub q a y) (sym (ap place cut)))) })))
primary_shape u s v (IsPrimary.grouped left x right cut good inside close) stop =
    subst (λ c. PrimaryBy c u v) (sym (ap (λ y. first (y ++ s)) cut ∙ good)) (behind k.Open (Inside (place u)) u v left (x ++ (right ∷ [])) cut good (Inside.item (record { left = x; right = right ∷ []; value = v; cut = refl; front = inside; back = word k.Close v right v close refl })))

module _ (Q : Reader Select) (I : Reader FromItem) (n : ℕ) (select_law : Reads n IsSelect more_select Q) (item_law : Reads n IsItem more_item I) where
  reads_sub : (p : ℕ) → Reads n (SubAt p) begins_alias (sub Q p)
  unfolding sub
  reads_sub p = reads_closed IsSelect k.Close (λ s. IsThen MaybeAlias (λ a. IsPure (from.Sub s a p))) more_select begins_alias n Q (λ s. alias >>= (λ a. pure (from.Sub s a p))) refl (some_aliased p) select_law
      (λ s. reads_last MaybeAlias begins_alias begins_alias n alias (λ a. from.Sub s a p) (within_self begins_alias) (reads_alias n))

  reads_grouped : Reads n GroupedLike nothing (grouped I)
  unfolding grouped
  reads_grouped = reads_closed IsItem k.Close (λ i. IsPure i) more_item nothing n I (λ i. pure i) refl (λ i. some_pure i) item_law (λ i. reads_pure i n)

  reads_inside_by : (p : ℕ) (c : Class) → Reads n (InsideBy p c) begins_alias (inside_by Q I p c)
  reads_inside_by p k.Select = reads_sub p
  reads_inside_by p _ = wider GroupedLike nothing begins_alias n (grouped I) (within_nothing begins_alias) reads_grouped

  reads_in_parens : Reads (suc n) (Placed ParenAt) begins_alias (in_parens Q I)
  unfolding in_parens
  reads_in_parens = reads_placed ParenAt begins_alias (suc n) (λ at. expect k.Open >> (peek >>= inside_by Q I at)) (λ p. long_after (is k.Open) no_meaning (λ _. Inside p)) (shift_behind k.Open Inside shift_inside)
      (λ p. reads_enter k.Open (Inside p) begins_alias n (peek >>= inside_by Q I p) (some_inside p) (reads_by (Inside p) (InsideBy p) begins_alias n (inside_by Q I p) (into_inside p) (inside_shape p) (reads_inside_by p)))

  pub reads_primary : Reads (suc n) IsPrimary begins_alias (primary Q I)
  unfolding primary
  reads_primary = reads_by IsPrimary PrimaryBy begins_alias (suc n) (primary_by Q I) into_primary primary_shape each
    where
      each : (c : Class) → Reads (suc n) (PrimaryBy c) begins_alias (primary_by Q I c)
      each k.Open = reads_in_parens
      each _ = reads_table n

-- ---- the words in front of JOIN

abbrev OuterLike : Class → JoinWord → Tokens → JoinWord → Type 0
OuterLike c side' = Behind c (IsThen (MaybeWord k.Outer) (λ _. IsPure side'))

abbrev SideBy : Class → Tokens → JoinWord → Type 0
SideBy k.Inner = Word k.Inner join.Inner
SideBy k.Left = OuterLike k.Left join.Left
SideBy k.Right = OuterLike k.Right join.Right
SideBy k.Full = OuterLike k.Full join.Full
SideBy _ = IsPure join.Inner

abbrev more_side : Set
more_side k.Inner = true
more_side k.Left = true
more_side k.Right = true
more_side k.Full = true
more_side k.Outer = true
more_side _ = false

maybe_outer : (u : Tokens) (b : Bool) → MaybeWord k.Outer u b → MaybeOuter u
maybe_outer u b (MaybeWord.none cut value) = MaybeOuter.none cut
maybe_outer u b (MaybeWord.given t cut good value) = MaybeOuter.word t cut good

outer_maybe : (u : Tokens) → MaybeOuter u → (b : Bool) × MaybeWord k.Outer u b
outer_maybe u (MaybeOuter.none cut) = (false, MaybeWord.none cut refl)
outer_maybe u (MaybeOuter.word t cut good) = (true, MaybeWord.given t cut good refl)

outer_is : (side' : JoinWord) (u : Tokens) (v : JoinWord) → IsThen (MaybeWord k.Outer) (λ _. IsPure side') u v → MaybeOuter u
outer_is side' u v h = maybe_outer u h.value (last_is (MaybeWord k.Outer) (λ _. side') u v h)

into_side : (c : Class) (u : Tokens) (v : JoinWord) → SideBy c u v → MaybeSide u v
into_side k.Inner u v h = MaybeSide.inner h.token (word_cut k.Inner join.Inner u v h) (is_same k.Inner (class h.token) h.good) h.back.value
into_side k.Left u v h = MaybeSide.left h.token h.rest h.cut (is_same k.Left (class h.token) h.good) (outer_is join.Left h.rest v h.back) h.back.back.value
into_side k.Right u v h = MaybeSide.right h.token h.rest h.cut (is_same k.Right (class h.token) h.good) (outer_is join.Right h.rest v h.back) h.back.back.value
into_side k.Full u v h = MaybeSide.full h.token h.rest h.cut (is_same k.Full (class h.token) h.good) (outer_is join.Full h.rest v h.back) h.back.back.value
into_side _ u v h = MaybeSide.none h.cut h.value

side_none : (c : Class) (u : Tokens) (v : JoinWord) → more_side c ≡ false → IsPure join.Inner u v → SideBy c u v
side_none k.Inner u v out h = absurd (true≢false out)
side_none k.Left u v out h = absurd (true≢false out)
side_none k.Right u v out h = absurd (true≢false out)
side_none k.Full u v out h = absurd (true≢false out)
side_none _ u v out h = h

outer_like : (c : Class) (side' : JoinWord) (u : Tokens) (v : JoinWord) (t : Seen) (w : Tokens) → u ≡ t ∷ w → class t ≡ c → MaybeOuter w → v ≡ side' → OuterLike c side' u v
outer_like c side' u v t w cut good outer value = let o = outer_maybe w outer in behind c (IsThen (MaybeWord k.Outer) (λ _. IsPure side')) u v t w cut good (last (MaybeWord k.Outer) (λ _. side') w o.0 v o.1 value)

side_shape : (u s : Tokens) (v : JoinWord) → MaybeSide u v → Stops more_side s → SideBy (first (u ++ s)) u v
side_shape u s v (MaybeSide.none cut value) stop = side_none (first (u ++ s)) u v (ap (λ w. more_side (first (w ++ s))) cut ∙ stop) (record { cut = cut; value = value })
side_shape u s v (MaybeSide.inner t cut good value) stop = subst (λ c. SideBy c u v) (sym (ap (λ w. first (w ++ s)) cut ∙ good)) (behind k.Inner (IsPure join.Inner) u v t [] cut good (record { cut = refl; value = value }))
side_shape u s v (MaybeSide.left t w cut good outer value) stop = subst (λ c. SideBy c u v) (sym (ap (λ x. first (x ++ s)) cut ∙ good)) (outer_like k.Left join.Left u v t w cut good outer value)
side_shape u s v (MaybeSide.right t w cut good outer value) stop = subst (λ c. SideBy c u v) (sym (ap (λ x. first (x ++ s)) cut ∙ good)) (outer_like k.Right join.Right u v t w cut good outer value)
side_shape u s v (MaybeSide.full t w cut good outer value) stop = subst (λ c. SideBy c u v) (sym (ap (λ x. first (x ++ s)) cut ∙ good)) (outer_like k.Full join.Full u v t w cut good outer value)

outer_token : is k.Outer k.Nothing ≡ false
unfolding same
outer_token = refl

outer_within : Within (is k.Outer) more_side
unfolding same
outer_within k.Outer = refl
outer_within _ = refl

reads_outer : (c : Class) (side' : JoinWord) (n : ℕ) → Reads n (OuterLike c side') more_side (outer_side c side')
unfolding outer_side
reads_outer c side' n = reads_expect c (IsThen (MaybeWord k.Outer) (λ _. IsPure side')) more_side n (eat k.Outer >>= (λ _. pure side')) (some_last (MaybeWord k.Outer) (λ _. side') (some_maybe k.Outer)) (reads_last (MaybeWord k.Outer) (is k.Outer) more_side n (eat k.Outer) (λ _. side') outer_within (reads_eat k.Outer outer_token n))

reads_inner : (n : ℕ) → Reads n (Word k.Inner join.Inner) more_side inner_side
unfolding inner_side
reads_inner n = wider (Word k.Inner join.Inner) nothing more_side n inner_side (within_nothing more_side) (reads_word k.Inner join.Inner n)

reads_side : (n : ℕ) → Reads n MaybeSide more_side side
unfolding side
reads_side n = reads_by MaybeSide SideBy more_side n side_by into_side side_shape each
  where
    each : (c : Class) → Reads n (SideBy c) more_side (side_by c)
    each k.Inner = reads_inner n
    each k.Left = reads_outer k.Left join.Left n
    each k.Right = reads_outer k.Right join.Right n
    each k.Full = reads_outer k.Full join.Full n
    each _ = reads_pure_in join.Inner more_side n

-- ---- joins

abbrev CrossLike : Tokens → Joined → Type 0
CrossLike = Behind k.Cross (Behind k.Join (IsThen IsPrimary (λ r. IsPure (join.Cross, r, None))))

abbrev CondLike : JoinWord → FromItem → Tokens → Joined → Type 0
CondLike kind r = IsThen IsExpr (λ c. IsPure (kind, r, Some c))

abbrev RightLike : JoinWord → Tokens → Joined → Type 0
RightLike kind = IsThen IsPrimary (λ r. Behind k.On (CondLike kind r))

abbrev SidedLike : Tokens → Joined → Type 0
SidedLike = IsThen MaybeSide (λ kind. Behind k.Join (RightLike kind))

abbrev JoinBy : Class → Tokens → Joined → Type 0
JoinBy k.Cross = CrossLike
JoinBy _ = SidedLike

into_join : (c : Class) (u : Tokens) (v : Joined) → JoinBy c u v → IsJoin u v
into_join k.Cross u v h =
    let j = h.back in
    IsJoin.cross h.token j.token j.rest j.back.value (h.cut ∙ ap (λ x. h.token ∷ x) j.cut) (is_same k.Cross (class h.token) h.good) (is_same k.Join (class j.token) j.good) (last_is IsPrimary (λ r. (join.Cross, r, None)) j.rest v j.back) j.back.back.value
into_join _ u v h =
    let j = h.back in
    let r = j.back in
    let o = r.back in
    IsJoin.sided h.left h.value j.token r.left r.value o.token o.rest o.back.value (h.cut ∙ ap (λ x. h.left ++ x) (j.cut ∙ ap (λ x. j.token ∷ x) (r.cut ∙ ap (λ x. r.left ++ x) o.cut))) h.front (is_same k.Join (class j.token) j.good) r.front (is_same k.On (class o.token) o.good)
    (last_is IsExpr (λ c. (h.value, r.value, Some c)) o.rest v o.back) o.back.back.value

abbrev begins_sided : Set
begins_sided k.Inner = true
begins_sided k.Left = true
begins_sided k.Right = true
begins_sided k.Full = true
begins_sided k.Join = true
begins_sided _ = false

join_sided : (c : Class) (u : Tokens) (v : Joined) → begins_sided c ≡ true → SidedLike u v → JoinBy c u v
join_sided k.Cross u v good h = absurd (true≢false (sym good))
join_sided _ u v good h = h

sided_first : (x w : Tokens) (kind : JoinWord) (t : Seen) → MaybeSide x kind → class t ≡ k.Join → begins_sided (first (x ++ (t ∷ w))) ≡ true
sided_first x w kind t (MaybeSide.none cut value) good = ap (λ v. begins_sided (first (v ++ (t ∷ w)))) cut ∙ ap begins_sided good
sided_first x w kind t (MaybeSide.inner y cut side' value) good = ap (λ v. begins_sided (first (v ++ (t ∷ w)))) cut ∙ ap begins_sided side'
sided_first x w kind t (MaybeSide.left y z cut side' outer value) good = ap (λ v. begins_sided (first (v ++ (t ∷ w)))) cut ∙ ap begins_sided side'
sided_first x w kind t (MaybeSide.right y z cut side' outer value) good = ap (λ v. begins_sided (first (v ++ (t ∷ w)))) cut ∙ ap begins_sided side'
sided_first x w kind t (MaybeSide.full y z cut side' outer value) good = ap (λ v. begins_sided (first (v ++ (t ∷ w)))) cut ∙ ap begins_sided side'

join_shape : (u s : Tokens) (v : Joined) → IsJoin u v → Stops more_target s → JoinBy (first (u ++ s)) u v
join_shape u s v (IsJoin.cross cross word' w right cut good join_is inside value) stop =
    subst (λ c. JoinBy c u v) (sym (ap (λ x. first (x ++ s)) cut ∙ good))
    (behind k.Cross (Behind k.Join (IsThen IsPrimary (λ r. IsPure (join.Cross, r, None)))) u v cross (word' ∷ w) cut good (behind k.Join (IsThen IsPrimary (λ r. IsPure (join.Cross, r, None))) (word' ∷ w) v word' w refl join_is (last IsPrimary (λ r. (join.Cross, r, None)) w right v inside value)))
join_shape u s v (IsJoin.sided x kind word' y right on w cond cut side' join_is inside on_is expr value) stop =
    join_sided (first (u ++ s)) u v (ap (λ z. begins_sided (first z)) (ap (λ z. z ++ s) cut ∙ append_assoc x (word' ∷ (y ++ (on ∷ w))) s) ∙ sided_first x ((y ++ (on ∷ w)) ++ s) kind word' side' join_is) (record {
      left = x;
      right = word' ∷ (y ++ (on ∷ w));
      value = kind;
      cut = cut;
      front = side';
      back = behind k.Join (RightLike kind) (word' ∷ (y ++ (on ∷ w))) v word' (y ++ (on ∷ w)) refl join_is (record { left = y; right = on ∷ w; value = right; cut = refl; front = inside; back = behind k.On (CondLike kind right) (on ∷ w) v on w refl on_is (last IsExpr (λ c. (kind, right, Some c)) w cond v expr value) });
    })

some_cond : (kind : JoinWord) (r : FromItem) → Inhabited (CondLike kind r)
some_cond kind r = some_last IsExpr (λ c. (kind, r, Some c)) some-IsExpr

some_right : (kind : JoinWord) → Inhabited (RightLike kind)
some_right kind = some_closed IsPrimary k.On (CondLike kind) some-IsPrimary (some_cond kind)

pub alias_target : Within begins_alias more_target
alias_target k.As = refl
alias_target _ = refl

pub expr_target : Within more_expr more_target
expr_target k.Or = refl
expr_target _ = refl

join_item : Within (either more_target begins_join) more_item
join_item k.Cross = refl
join_item _ = refl

join_alias : Apart begins_join begins_alias
join_alias k.Cross = refl
join_alias _ = refl

join_target : Apart begins_join more_target
join_target k.Cross = refl
join_target _ = refl

alias_or_join : Within begins_alias (either more_target begins_join)
alias_or_join k.As = refl
alias_or_join _ = refl

into_item : (u : Tokens) (v : FromItem) → Placed (λ p. Chained IsPrimary IsJoin (join_chain p)) u v → IsItem u v
into_item u v is = let c = chain_of IsPrimary IsJoin (join_chain (place u)) u v is in IsItem.joined c.left c.right c.value c.list c.cut c.front (to-MoreJoins c.right c.list c.many) c.all

of_item : (u : Tokens) (v : FromItem) → IsItem u v → Placed (λ p. Chained IsPrimary IsJoin (join_chain p)) u v
of_item u v (IsItem.joined x w a list cut is others all) = of_chain IsPrimary IsJoin (join_chain (place u)) u x w a list v cut is (of-MoreJoins w list others) all

module _ (E : Reader Ast) (Q : Reader Select) (I : Reader FromItem) (n : ℕ) (expr_law : Reads n IsExpr more_expr E) (primary_law : Reads (suc n) IsPrimary begins_alias (primary Q I)) where
  lower : Reads n IsPrimary begins_alias (primary Q I)
  lower = fewer IsPrimary begins_alias n (primary Q I) primary_law

  reads_crossed : Reads (suc n) CrossLike more_target (crossed Q I)
  unfolding crossed
  reads_crossed =
      reads_enter k.Cross (Behind k.Join (IsThen IsPrimary (λ r. IsPure (join.Cross, r, None)))) more_target n (expect k.Join >> (primary Q I >>= (λ r. pure (join.Cross, r, None)))) (some_behind k.Join (IsThen IsPrimary (λ r. IsPure (join.Cross, r, None))) (some_last IsPrimary (λ r. (join.Cross, r, None)) some-IsPrimary))
      (reads_expect k.Join (IsThen IsPrimary (λ r. IsPure (join.Cross, r, None))) more_target n (primary Q I >>= (λ r. pure (join.Cross, r, None))) (some_last IsPrimary (λ r. (join.Cross, r, None)) some-IsPrimary) (reads_last IsPrimary begins_alias more_target n (primary Q I) (λ r. (join.Cross, r, None)) alias_target lower))

  reads_sided : Reads (suc n) SidedLike more_target (sided E Q I)
  unfolding sided
  reads_sided =
      reads_then MaybeSide (λ kind. Behind k.Join (RightLike kind)) more_side more_target (suc n) side (λ kind. expect k.Join >> (primary Q I >>= (λ r. expect k.On >> (E >>= (λ c. pure (kind, r, Some c)))))) (starts_behind k.Join more_side more_target RightLike refl) (λ kind. some_behind k.Join (RightLike kind) (some_right kind)) (reads_side (suc n))
      (λ kind. reads_enter k.Join (RightLike kind) more_target n (primary Q I >>= (λ r. expect k.On >> (E >>= (λ c. pure (kind, r, Some c))))) (some_right kind)
      (reads_closed IsPrimary k.On (CondLike kind) begins_alias more_target n (primary Q I) (λ r. E >>= (λ c. pure (kind, r, Some c))) refl (some_cond kind) lower (λ r. reads_last IsExpr more_expr more_target n E (λ c. (kind, r, Some c)) expr_target expr_law)))

  reads_join : Reads (suc n) IsJoin more_target (join_of E Q I)
  unfolding join_of
  reads_join = reads_by IsJoin JoinBy more_target (suc n) (join_by E Q I) into_join join_shape each
    where
      each : (c : Class) → Reads (suc n) (JoinBy c) more_target (join_by E Q I c)
      each k.Cross = reads_crossed
      each _ = reads_sided

  pub reads_item : Reads (suc n) IsItem more_item (item_of E Q I)
  unfolding item_of
  reads_item =
      same_language (Placed (λ p. Chained IsPrimary IsJoin (join_chain p))) IsItem (either more_target begins_join) more_item (suc n) (item_of E Q I) into_item of_item join_item
      (reads_placed (λ p. Chained IsPrimary IsJoin (join_chain p)) (either more_target begins_join) (suc n) (λ at. primary Q I >>= (λ a. many begins_join (join_of E Q I) >>= (λ joins. pure (join_chain at a joins))))
      (λ p. long_then IsPrimary (λ a. IsThen (Many IsJoin) (λ joins. IsPure (join_chain p a joins))) (λ u a is. begins_some begins_primary IsPrimary u a begins-IsPrimary is)) (shift_chained IsPrimary IsJoin join_chain)
      (λ p. reads_chained IsPrimary IsJoin (join_chain p) begins_join begins_alias more_target (suc n) (primary Q I) (join_of E Q I) begins-IsJoin join_alias join_target alias_or_join some-IsJoin primary_law reads_join))

pub reads_item_of : (E : Reader Ast) (Q : Reader Select) (I : Reader FromItem) (n : ℕ) → Reads n IsExpr more_expr E → Reads n IsSelect more_select Q → Reads n IsItem more_item I → Reads (suc n) IsItem more_item (item_of E Q I)
reads_item_of E Q I n expr_law select_law item_law = reads_item E Q I n expr_law (reads_primary Q I n select_law item_law)
