-- The expressions of one group have one type.
use Rattle.std.proofs.Common.{◌≡◌, ◌∙◌, ap, sym, subst, refl, ℕ, suc, ◌<◌, ◌≤◌, ◌⊎◌, inl, inr, Bool, true, false, List, [], ◌∷◌, ◌++◌, map, length, length-append, eqb-true, Some, arith}
use Rattle.std.specs.Prelude.{◌==◌, max, min, if◌then◌else◌}
use Rattle.std.specs.List.{list_any}
use Rattle.std.proofs.lemmas.Bool.{cases_Bool, cases_lt}
use Rattle.std.proofs.lemmas.List.{length-map}
use Rattle.jp_base.specs.declared.values.Ty.{Ty}
use Rattle.jp_facts.proofs.Members.{In, from_append, from_map, from_any, in_append_left, in_append_right}
use Rattle.jp_laws.proofs.SameItself.{same_as_itself}
use Rattle.jp_query.specs.declared.Expr.{Expr}
use Rattle.jp_query.specs.Equality.{same_expr}
use Rattle.jp_query.specs.Typing.{type_of}
use Rattle.jp_problem.specs.Classes.{Grouped, is_entry_of, with_expr, group_of, moved, with_equality}
use Rattle.jp_problem.specs.Equalities.{Sides, has_sublink}
use Rattle.jp_conditions.proofs.Equal.{Compared}
use Rattle.jp_conditions.proofs.WithoutSublinks.{plain_same}

pub record Kinds (groups : List Grouped) : Type 0 where
  pub low : (g : Grouped) → In g groups → g.group < length groups
  pub typed : (g : Grouped) → In g groups → (t : Ty) × (type_of g.expr ≡ Some t)
  pub plain : (g : Grouped) → In g groups → has_sublink g.expr ≡ false
  pub same : (g h : Grouped) → In g groups → In h groups → g.group ≡ h.group → type_of g.expr ≡ type_of h.expr

pub no_kinds : Kinds []
no_kinds = record { low = λ g h. absurd h; typed = λ g h. absurd h; plain = λ g h. absurd h; same = λ g h p. absurd p }

-- the expression is one of the groups'
abbrev Lists : List Grouped → Expr → Type 0
Lists groups e = (g : Grouped) × In g groups × (same_expr g.expr e ≡ true)

module _ (groups : List Grouped) (e : Expr) where
  abbrev new : Grouped
  new = record { expr = e; group = length groups }

  abbrev more : List Grouped
  more = groups ++ record { expr = e; group = length groups } ∷ []

  longer : length more ≡ suc (length groups)
  longer = omega (arith, length-append groups (new ∷ []))

  one_more : (k : Kinds groups) (t : Ty) → type_of e ≡ Some t → has_sublink e ≡ false → Kinds more
  one_more k t typed plain = record {
    low = λ g h. low_of g (place g h);
    typed = λ g h. typed_of g (place g h);
    plain = λ g h. plain_of g (place g h);
    same = λ g h p q. same_of g h (place g p) (place h q);
  }
    where
      place : (g : Grouped) → In g more → In g groups ⊎ (new ≡ g)
      place g h = elim (from_append g groups (new ∷ []) h) [ inl p ↦ inl p | inr p ↦ elim p [ inl is ↦ inr is | inr gone ↦ absurd gone ] ]

      low_of : (g : Grouped) → In g groups ⊎ (new ≡ g) → g.group < length more
      low_of g (inl h) = let p = k.low g h in omega (arith, p, longer)
      low_of g (inr is) = subst (λ (x : Grouped). x.group < length more) is (omega (arith, longer))

      typed_of : (g : Grouped) → In g groups ⊎ (new ≡ g) → (t : Ty) × (type_of g.expr ≡ Some t)
      typed_of g (inl h) = k.typed g h
      typed_of g (inr is) = (t, subst (λ (x : Grouped). type_of x.expr ≡ Some t) is typed)

      plain_of : (g : Grouped) → In g groups ⊎ (new ≡ g) → has_sublink g.expr ≡ false
      plain_of g (inl h) = k.plain g h
      plain_of g (inr is) = subst (λ (x : Grouped). has_sublink x.expr ≡ false) is plain

      same_of : (g h : Grouped) → In g groups ⊎ (new ≡ g) → In h groups ⊎ (new ≡ h) → g.group ≡ h.group → type_of g.expr ≡ type_of h.expr
      same_of g h (inl p) (inl q) e = k.same g h p q e
      same_of g h (inl p) (inr q) e = let low = k.low g p in absurd (omega (arith, low, e, ap (λ (x : Grouped). x.group) q))
      same_of g h (inr p) (inl q) e = let low = k.low h q in absurd (omega (arith, low, e, ap (λ (x : Grouped). x.group) p))
      same_of g h (inr p) (inr q) e = ap (λ (x : Grouped). type_of x.expr) (sym p ∙ q)

  with_kinds : Kinds groups → (t : Ty) → type_of e ≡ Some t → has_sublink e ≡ false → Kinds (with_expr groups e)
  with_kinds k t typed plain = by (list_any (is_entry_of e) groups)
    where
      by : (b : Bool) → Kinds (if b then groups else groups ++ record { expr = e; group = length groups } ∷ [])
      by true = k
      by false = one_more k t typed plain

  keeps : (g : Grouped) → In g groups → In g (with_expr groups e)
  keeps g h = by (list_any (is_entry_of e) groups)
    where
      by : (b : Bool) → In g (if b then groups else groups ++ record { expr = e; group = length groups } ∷ [])
      by true = h
      by false = in_append_left g groups (new ∷ []) h

  lists_it : Lists (with_expr groups e) e
  lists_it = by (list_any (is_entry_of e) groups) refl
    where
      by : (b : Bool) → list_any (is_entry_of e) groups ≡ b → Lists (if b then groups else groups ++ record { expr = e; group = length groups } ∷ []) e
      by true found = let g = from_any (is_entry_of e) groups found in (g.0, g.1, g.2)
      by false found = (new, in_append_right new groups (new ∷ []) (inl refl), same_as_itself e)

-- the group of a listed expression is that of one that is the same
found_group : (groups : List Grouped) (e : Expr) → Lists groups e → (g : Grouped) × In g groups × (same_expr g.expr e ≡ true) × (g.group ≡ group_of groups e)
found_group [] e l = absurd l.1
found_group (x ∷ groups) e l = elim (cases_Bool (same_expr x.expr e)) [
  | inl same ↦ (x, inl refl, same, sym (ap (λ b. if b then x.group else group_of groups e) same))
  | inr other ↦ (let rest = found_group groups e (later l other) in (rest.0, inr rest.1, rest.2, rest.3 ∙ sym (ap (λ b. if b then x.group else group_of groups e) other)))
]
  where
    later : Lists (x ∷ groups) e → same_expr x.expr e ≡ false → Lists groups e
    later (g, inl is, same) other = absurd (unequal (sym (subst (λ (y : Grouped). same_expr y.expr e ≡ false) is other) ∙ same))
      where
        unequal : false ≡ true → ⊥
        unequal e = cc
    later (g, inr h, same) other = (g, h, same)

module _ (groups : List Grouped) (k : Kinds groups) (m n : ℕ) (lower : n ≤ m) (t : Ty) (of_m : (g : Grouped) → In g groups → g.group ≡ m → type_of g.expr ≡ Some t) (of_n : (g : Grouped) → In g groups → g.group ≡ n → type_of g.expr ≡ Some t) where
  -- the groups m and n become one: what was in m, and what stays in its group
  data Moved (h : Grouped) : Type 0 where
    went : (g : Grouped) → In g groups → g.group ≡ m → h.expr ≡ g.expr → h.group ≡ n → Moved h
    stayed : (g : Grouped) → In g groups → h.expr ≡ g.expr → h.group ≡ g.group → Moved h

  moved_of : (g : Grouped) → In g groups → Moved (moved m n g)
  moved_of g h = by (g.group == m) refl
    where
      by : (b : Bool) → (g.group == m) ≡ b → Moved (if b then record g { group = n } else g)
      by true e = went g h (eqb-true g.group m e) refl refl
      by false e = stayed g h refl refl

  all_moved : (h : Grouped) → In h (map (moved m n) groups) → Moved h
  all_moved h p = let f = from_map (moved m n) h groups p in subst Moved f.2 (moved_of f.0 f.1)

  as_long : length (map (moved m n) groups) ≡ length groups
  as_long = length-map groups (moved m n)

  low_moved : (h : Grouped) → Moved h → h.group < length (map (moved m n) groups)
  low_moved h (went g p e x y) = let low = k.low g p in omega (arith, low, e, y, lower, as_long)
  low_moved h (stayed g p x y) = let low = k.low g p in omega (arith, low, y, as_long)

  typed_moved : (h : Grouped) → Moved h → (t : Ty) × (type_of h.expr ≡ Some t)
  typed_moved h (went g p e x y) = (t, ap type_of x ∙ of_m g p e)
  typed_moved h (stayed g p x y) = let f = k.typed g p in (f.0, ap type_of x ∙ f.1)

  plain_moved : (h : Grouped) → Moved h → has_sublink h.expr ≡ false
  plain_moved h (went g p e x y) = ap has_sublink x ∙ k.plain g p
  plain_moved h (stayed g p x y) = ap has_sublink x ∙ k.plain g p

  same_moved : (h i : Grouped) → Moved h → Moved i → h.group ≡ i.group → type_of h.expr ≡ type_of i.expr
  same_moved h i (went g p e x y) (went f q d u v) same = ap type_of x ∙ of_m g p e ∙ sym (ap type_of u ∙ of_m f q d)
  same_moved h i (went g p e x y) (stayed f q u v) same = ap type_of x ∙ of_m g p e ∙ sym (ap type_of u ∙ of_n f q (sym v ∙ sym same ∙ y))
  same_moved h i (stayed g p x y) (went f q d u v) same = ap type_of x ∙ of_n g p (sym y ∙ same ∙ v) ∙ sym (ap type_of u ∙ of_m f q d)
  same_moved h i (stayed g p x y) (stayed f q u v) same = ap type_of x ∙ k.same g f p q (sym y ∙ same ∙ v) ∙ sym (ap type_of u)

  moved_kinds : Kinds (map (moved m n) groups)
  moved_kinds = record {
    low = λ h p. low_moved h (all_moved h p);
    typed = λ h p. typed_moved h (all_moved h p);
    plain = λ h p. plain_moved h (all_moved h p);
    same = λ h i p q. same_moved h i (all_moved h p) (all_moved i q);
  }

greater : (a b : ℕ) → (max a b ≡ a) ⊎ (max a b ≡ b)
greater a b = elim (cases_lt a b) [ inl low ↦ inr (omega (arith, low)) | inr high ↦ inl (omega (arith, high)) ]

lesser : (a b : ℕ) → (min a b ≡ a) ⊎ (min a b ≡ b)
lesser a b = elim (cases_lt a b) [ inl low ↦ inl (omega (arith, low)) | inr high ↦ inr (omega (arith, high)) ]

-- an equality of two expressions of one type makes one group of theirs
pub equality_kinds : (groups : List Grouped) (sides : Sides) → Kinds groups → Compared sides.first sides.second → has_sublink sides.first ≡ false → has_sublink sides.second ≡ false → Kinds (with_equality groups sides)
equality_kinds groups sides k c p q =
    let one = with_expr groups sides.first in
    let both = with_expr one sides.second in
    let k1 = with_kinds groups sides.first k c.type c.first p in
    let k2 = with_kinds one sides.second k1 c.type c.second q in
    let first = lists_it groups sides.first in
    let a = found_group both sides.first (first.0, keeps one sides.second first.0 first.1, first.2) in
    let b = found_group both sides.second (lists_it one sides.second) in
    let is_a : type_of a.0.expr ≡ Some c.type = ap type_of (plain_same a.0.expr sides.first (k2.plain a.0 a.1) a.2) ∙ c.first in
    let is_b : type_of b.0.expr ≡ Some c.type = ap type_of (plain_same b.0.expr sides.second (k2.plain b.0 b.1) b.2) ∙ c.second in
    let of_a : (g : Grouped) → In g both → g.group ≡ group_of both sides.first → type_of g.expr ≡ Some c.type = λ g h e. k2.same g a.0 h a.1 (e ∙ sym a.3) ∙ is_a in
    let of_b : (g : Grouped) → In g both → g.group ≡ group_of both sides.second → type_of g.expr ≡ Some c.type = λ g h e. k2.same g b.0 h b.1 (e ∙ sym b.3) ∙ is_b in
    let x = group_of both sides.first in
    let y = group_of both sides.second in
    moved_kinds both k2 (max x y) (min x y) (omega arith) c.type
    (λ g h e. elim (greater x y) [ inl f ↦ of_a g h (e ∙ f) | inr f ↦ of_b g h (e ∙ f) ])
    (λ g h e. elim (lesser x y) [ inl f ↦ of_a g h (e ∙ f) | inr f ↦ of_b g h (e ∙ f) ])
