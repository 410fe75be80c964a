-- The readers of atoms are exact, where those of inner expressions and selects are.
use Rattle.std.proofs.lemmas.Bool.{not-false}
use Rattle.std.proofs.Common.{◌≡◌, ℕ, suc, Bool, true, false, not, ◌&&◌, ◌||◌, List, [], ◌∷◌, ◌++◌, Option, None, Some, refl, sym, ap, ◌∙◌, subst, append_assoc, true≢false}
use Rattle.jp_ast.specs.declared.tree.Ast.{Ast}
use Rattle.jp_ast.specs.declared.tree.Ast.TheVariants as ast
use Rattle.jp_ast.specs.declared.tree.Select.{Select}
use Rattle.jp_ast.specs.declared.class.Class.{Class}
use Rattle.jp_ast.specs.declared.class.Class.TheVariants as k
use Rattle.jp_ast.specs.Seen.{Seen, number_in, place}
use Rattle.jp_ast.specs.Classes.{class, first, same, is_name}
use Rattle.jp_cursor.specs.Reading.{Reader, ◌>>=◌, ◌>>◌, pure, peek, is, expect, no_meaning, content_in, name, text, number, listed}
use Rattle.jp_ast.specs.Grammar.{IsAtom, IsExpr, IsSelect, AreExprs, MaybeOperand, AreArms, IsArm, MaybeElse}
use Rattle.jp_parse.specs.Readers.{number_atom, text_atom, word_atom, after_name, name_atom, true_node, false_node, null_node, parens, exists, coalesce, operand_by, operand, arm, arms, otherwise_by, otherwise, cases, atom_by, atom}
use Rattle.jp_parse.proofs.Exact.{Tokens, Set, nothing, either, Within, Stops, Reads, Inhabited, IsPure, IsThen, Starts, reads_then, reads_by, IsAfter, reads_after, begins_first, reads_pure, within_self, same_language, left_false}
use Rattle.jp_parse.proofs.Samples.{sample, is_same, same_is, is_sample}
use Rattle.jp_parse.proofs.Steps.{reads_last, some_last, last_is, last, reads_closed, some_closed, within_left, fewer, wider, Behind, behind_class, behind, some_behind, some_then, starts_behind, reads_enter, reads_expect, Word, some_word, reads_word, Named, some_named, reads_named, some_pure, Shifts, shift_pure, shift_after, shift_then, shift_behind, long_after, Placed, reads_placed, apart_is, within_nothing, starts_then, reads_pure_in, Chained, some_chained, reads_chained, Listed, reads_listed, chain_of, of_chain, word_cut, word}
use Rattle.jp_parse.proofs.Sets.{begins_expr, more_atom, more_expr, more_select}
use Rattle.jp_parse.proofs.FirstTokens.{begins-IsExpr, begins-IsArm}
use Rattle.jp_parse.proofs.Least.{some-IsExpr, some-IsSelect, some-IsArm, some-AreArms}
use Rattle.jp_parse.proofs.ListLaws.{to-MoreExprs, of-MoreExprs, to-MoreArms, of-MoreArms}

-- ---- single tokens

abbrev NumberAt : ℕ → Tokens → Ast → Type 0
NumberAt p = IsAfter (is k.Number) number_in (λ n. IsPure (ast.Number n p))

abbrev TextAt : ℕ → Tokens → Ast → Type 0
TextAt p = IsAfter (is k.Text) content_in (λ t. IsPure (ast.Text t p))

abbrev WordAt : Class → (ℕ → Ast) → ℕ → Tokens → Ast → Type 0
WordAt c node p = Word c (node p)

reads_number : (n : ℕ) → Reads (suc n) (Placed NumberAt) nothing number_atom
unfolding number_atom number
reads_number n = reads_placed NumberAt nothing (suc n) (λ at. number >>= (λ m. pure (ast.Number m at))) (λ p. long_after (is k.Number) number_in (λ m. IsPure (ast.Number m p)))
    (shift_after (is k.Number) number_in (λ p m. IsPure (ast.Number m p)) (λ m. shift_pure (λ p. ast.Number m p)))
    (λ p. reads_after (is k.Number) number_in (λ m. IsPure (ast.Number m p)) nothing n (λ m. pure (ast.Number m p)) (sample k.Number) (is_sample k.Number) (λ m. some_pure (ast.Number m p)) (λ m. reads_pure (ast.Number m p) n))

reads_text : (n : ℕ) → Reads (suc n) (Placed TextAt) nothing text_atom
unfolding text_atom text
reads_text n = reads_placed TextAt nothing (suc n) (λ at. text >>= (λ m. pure (ast.Text m at))) (λ p. long_after (is k.Text) content_in (λ m. IsPure (ast.Text m p)))
    (shift_after (is k.Text) content_in (λ p m. IsPure (ast.Text m p)) (λ m. shift_pure (λ p. ast.Text m p)))
    (λ p. reads_after (is k.Text) content_in (λ m. IsPure (ast.Text m p)) nothing n (λ m. pure (ast.Text m p)) (sample k.Text) (is_sample k.Text) (λ m. some_pure (ast.Text m p)) (λ m. reads_pure (ast.Text m p) n))

reads_word_atom : (c : Class) (node : ℕ → Ast) (n : ℕ) → Reads (suc n) (Placed (WordAt c node)) nothing (word_atom c node)
unfolding word_atom
reads_word_atom c node n = reads_placed (WordAt c node) nothing (suc n) (λ at. expect c >> pure (node at)) (λ p. long_after (is c) no_meaning (λ _. IsPure (node p))) (shift_behind c (λ p. IsPure (node p)) (shift_pure node)) (λ p. reads_word c (node p) (suc n))

-- ---- a name, alone or behind another

data AfterName (p : ℕ) (q : List ℕ) : Tokens → Ast → Type 0 where
  alone : {u : Tokens} {a : Ast} → IsPure (ast.Name q p) u a → AfterName p q u a
  dotted : {u : Tokens} {a : Ast} → Behind k.Dot (Named (λ n. IsPure (ast.Qualified q n p))) u a → AfterName p q u a

abbrev AfterNameBy : ℕ → List ℕ → Class → Tokens → Ast → Type 0
AfterNameBy p q k.Dot = Behind k.Dot (Named (λ n. IsPure (ast.Qualified q n p)))
AfterNameBy p q _ = IsPure (ast.Name q p)

into_after : (p : ℕ) (q : List ℕ) (c : Class) (u : Tokens) (a : Ast) → AfterNameBy p q c u a → AfterName p q u a
into_after p q k.Dot u a is = AfterName.dotted is
into_after p q _ u a is = AfterName.alone is

after_alone : (p : ℕ) (q : List ℕ) (c : Class) (u : Tokens) (a : Ast) → more_atom c ≡ false → IsPure (ast.Name q p) u a → AfterNameBy p q c u a
after_alone p q k.Dot u a out is = absurd (true≢false out)
after_alone p q _ u a out is = is

after_shape : (p : ℕ) (q : List ℕ) (u s : Tokens) (a : Ast) → AfterName p q u a → Stops more_atom s → AfterNameBy p q (first (u ++ s)) u a
after_shape p q u s a (AfterName.alone is) stop = after_alone p q (first (u ++ s)) u a (ap (λ w. more_atom (first (w ++ s))) is.cut ∙ stop) is
after_shape p q u s a (AfterName.dotted is) stop = subst (λ c. AfterNameBy p q c u a) (sym (behind_class k.Dot (Named (λ n. IsPure (ast.Qualified q n p))) u s a is)) is

some_dotted : (p : ℕ) (q : List ℕ) → Inhabited (Named (λ n. IsPure (ast.Qualified q n p)))
some_dotted p q = some_named (λ n. IsPure (ast.Qualified q n p)) (λ n. some_pure (ast.Qualified q n p))

reads_after_by : (p : ℕ) (q : List ℕ) (n : ℕ) (c : Class) → Reads n (AfterNameBy p q c) more_atom (after_name p q c)
reads_after_by p q n k.Dot = wider (Behind k.Dot (Named (λ m. IsPure (ast.Qualified q m p)))) nothing more_atom n (expect k.Dot >> (name >>= (λ m. pure (ast.Qualified q m p)))) (within_nothing more_atom)
    (reads_expect k.Dot (Named (λ m. IsPure (ast.Qualified q m p))) nothing n (name >>= (λ m. pure (ast.Qualified q m p))) (some_dotted p q)
    (fewer (Named (λ m. IsPure (ast.Qualified q m p))) nothing n (name >>= (λ m. pure (ast.Qualified q m p))) (reads_named (λ m. IsPure (ast.Qualified q m p)) nothing n (λ m. pure (ast.Qualified q m p)) (λ m. some_pure (ast.Qualified q m p)) (λ m. reads_pure (ast.Qualified q m p) n))))
reads_after_by p q n _ = reads_pure_in (ast.Name q p) more_atom n

reads_after_name : (p : ℕ) (q : List ℕ) (n : ℕ) → Reads n (AfterName p q) more_atom (peek >>= after_name p q)
reads_after_name p q n = reads_by (AfterName p q) (AfterNameBy p q) more_atom n (after_name p q) (into_after p q) (after_shape p q) (reads_after_by p q n)

abbrev NameAt : ℕ → Tokens → Ast → Type 0
NameAt p = Named (AfterName p)

shift_after_name : (q : List ℕ) → Shifts (λ p. AfterName p q)
shift_after_name q p r u a (AfterName.alone is) = let moved = shift_pure (λ x. ast.Name q x) p r u a is in (moved.0, AfterName.alone moved.1)
shift_after_name q p r u a (AfterName.dotted is) =
    let moved = shift_behind k.Dot (λ x. Named (λ n. IsPure (ast.Qualified q n x))) (shift_after is_name content_in (λ x n. IsPure (ast.Qualified q n x)) (λ n. shift_pure (λ x. ast.Qualified q n x))) p r u a is in
    (moved.0, AfterName.dotted moved.1)

some_after_name : (p : ℕ) (q : List ℕ) → Inhabited (AfterName p q)
some_after_name p q = let s = some_pure (ast.Name q p) in (s.0, s.1, AfterName.alone s.2)

reads_name : (n : ℕ) → Reads (suc n) (Placed NameAt) more_atom name_atom
unfolding name_atom
reads_name n = reads_placed NameAt more_atom (suc n) (λ at. name >>= (λ q. peek >>= after_name at q)) (λ p. long_after is_name content_in (AfterName p)) (shift_after is_name content_in (λ p q. AfterName p q) shift_after_name)
    (λ p. reads_named (AfterName p) more_atom n (λ q. peek >>= after_name p q) (some_after_name p) (λ q. reads_after_name p q n))

-- ---- lists of expressions

pub to-AreExprs : (u : Tokens) (v : List Ast) → Listed IsExpr u v → AreExprs u v
to-AreExprs u v is = let c = chain_of IsExpr (Behind k.Comma IsExpr) (λ a more. a ∷ more) u v is in AreExprs.exprs c.left c.right c.value c.list c.cut c.front (to-MoreExprs c.right c.list c.many) c.all

pub of-AreExprs : (u : Tokens) (v : List Ast) → AreExprs u v → Listed IsExpr u v
of-AreExprs u v (AreExprs.exprs x w a list cut is more all) = of_chain IsExpr (Behind k.Comma IsExpr) (λ b others. b ∷ others) u x w a list v cut is (of-MoreExprs w list more) all

abbrev pub more_exprs : Set
more_exprs = either more_expr (is k.Comma)

pub some_exprs : Inhabited (Listed IsExpr)
some_exprs = some_chained IsExpr (Behind k.Comma IsExpr) (λ a more. a ∷ more) some-IsExpr

module _ (E : Reader Ast) (n : ℕ) (law : Reads n IsExpr more_expr E) where
  pub reads_exprs : Reads n (Listed IsExpr) more_exprs (listed E)
  reads_exprs = reads_listed IsExpr more_expr n E refl some-IsExpr law

-- ---- CASE

abbrev OperandBy : Class → Tokens → Option Ast → Type 0
OperandBy k.When = IsPure None
OperandBy _ = IsThen IsExpr (λ a. IsPure (Some a))

into_operand : (c : Class) (u : Tokens) (v : Option Ast) → OperandBy c u v → MaybeOperand u v
into_operand k.When u v is = MaybeOperand.no_operand is.cut is.value
into_operand _ u v is = MaybeOperand.operand is.value (last_is IsExpr Some u v is) is.back.value

operand_some : (c : Class) (u : Tokens) (v : Option Ast) → begins_expr c ≡ true → IsThen IsExpr (λ a. IsPure (Some a)) u v → OperandBy c u v
operand_some k.When u v good is = absurd (true≢false (sym good))
operand_some _ u v good is = is

abbrev but_when : Set
but_when c = not (is k.When c)

operand_shape : (u s : Tokens) (v : Option Ast) → MaybeOperand u v → Stops but_when s → OperandBy (first (u ++ s)) u v
operand_shape u s v (MaybeOperand.no_operand cut value) stop = subst (λ c. OperandBy c u v) (sym (ap (λ w. first (w ++ s)) cut ∙ is_same k.When (first s) (not-false (is k.When (first s)) stop))) (record { cut = cut; value = value })
operand_shape u s v (MaybeOperand.operand a inside value) stop = operand_some (first (u ++ s)) u v (begins_first begins_expr IsExpr u s a begins-IsExpr inside) (last IsExpr Some u a v inside value)

within_but_when : Within more_expr but_when
unfolding same
within_but_when k.When = refl
within_but_when _ = refl

abbrev IsArmLike : Tokens → Ast × Ast → Type 0
IsArmLike = Behind k.When (IsThen IsExpr (λ a. Behind k.Then (IsThen IsExpr (λ b. IsPure (a, b)))))

into_arm : (u : Tokens) (v : Ast × Ast) → IsArmLike u v → IsArm u v
into_arm u v h =
    let t = h.back.back in
    IsArm.arm h.token h.back.left h.back.value t.token t.rest t.back.value (h.cut ∙ ap (λ w. h.token ∷ w) (h.back.cut ∙ ap (λ w. h.back.left ++ w) t.cut)) (is_same k.When (class h.token) h.good) h.back.front (is_same k.Then (class t.token) t.good)
    (last_is IsExpr (λ b. (h.back.value, b)) t.rest v t.back) t.back.back.value

of_arm : (u : Tokens) (v : Ast × Ast) → IsArm u v → IsArmLike u v
of_arm u v (IsArm.arm when x a word' w b cut when_is inside then_is other value) =
    behind k.When (IsThen IsExpr (λ a. Behind k.Then (IsThen IsExpr (λ b. IsPure (a, b))))) u v when (x ++ (word' ∷ w)) cut when_is
    (record { left = x; right = word' ∷ w; value = a; cut = refl; front = inside; back = behind k.Then (IsThen IsExpr (λ b. IsPure (a, b))) (word' ∷ w) v word' w refl then_is (last IsExpr (λ b. (a, b)) w b v other value) })

to-AreArms : (u : Tokens) (v : List (Ast × Ast)) → Chained IsArm IsArm (λ a more. a ∷ more) u v → AreArms u v
to-AreArms u v is = let c = chain_of IsArm IsArm (λ a more. a ∷ more) u v is in AreArms.arms c.left c.right c.value c.list c.cut c.front (to-MoreArms c.right c.list c.many) c.all

of-AreArms : (u : Tokens) (v : List (Ast × Ast)) → AreArms u v → Chained IsArm IsArm (λ a more. a ∷ more) u v
of-AreArms u v (AreArms.arms x w a list cut is more all) = of_chain IsArm IsArm (λ b others. b ∷ others) u x w a list v cut is (of-MoreArms w list more) all

abbrev more_arms : Set
more_arms = either more_expr (is k.When)

-- wide enough for the arms in front
abbrev more_else : Set
more_else = either more_arms (is k.Else)

abbrev ElseBy : Class → Tokens → Option Ast → Type 0
ElseBy k.Else = Behind k.Else (IsThen IsExpr (λ a. IsPure (Some a)))
ElseBy _ = IsPure None

into_else : (c : Class) (u : Tokens) (v : Option Ast) → ElseBy c u v → MaybeElse u v
into_else k.Else u v h = MaybeElse.otherwise h.token h.rest h.back.value h.cut (is_same k.Else (class h.token) h.good) (last_is IsExpr Some h.rest v h.back) h.back.back.value
into_else _ u v is = MaybeElse.no_else is.cut is.value

no_else : (c : Class) (u : Tokens) (v : Option Ast) → more_else c ≡ false → IsPure None u v → ElseBy c u v
unfolding same
no_else k.Else u v out is = absurd (true≢false out)
no_else _ u v out is = is

else_shape : (u s : Tokens) (v : Option Ast) → MaybeElse u v → Stops more_else s → ElseBy (first (u ++ s)) u v
else_shape u s v (MaybeElse.no_else cut value) stop = no_else (first (u ++ s)) u v (ap (λ w. more_else (first (w ++ s))) cut ∙ stop) (record { cut = cut; value = value })
else_shape u s v (MaybeElse.otherwise t w a cut else_is inside value) stop =
    let h = behind k.Else (IsThen IsExpr (λ a. IsPure (Some a))) u v t w cut else_is (last IsExpr Some w a v inside value) in
    subst (λ c. ElseBy c u v) (sym (behind_class k.Else (IsThen IsExpr (λ a. IsPure (Some a))) u s v h)) h

some_else : Inhabited MaybeElse
some_else = ([], None, MaybeElse.no_else refl refl)

starts_else : {A : Type 0} → Starts more_arms (λ (a : A). MaybeElse) more_else
unfolding same
starts_else a w s v (MaybeElse.no_else cut value) stop = ap (λ x. more_arms (first (x ++ s))) cut ∙ left_false (more_arms (first s)) (is k.Else (first s)) stop
starts_else a w s v (MaybeElse.otherwise t x b cut else_is inside value) stop = ap (λ y. more_arms (first (y ++ s))) cut ∙ ap more_arms else_is

starts_arms : {A B : Type 0} (M : A → List (Ast × Ast) → Tokens → B → Type 0) (Y : Set) → Starts but_when (λ a. IsThen AreArms (M a)) Y
starts_arms M Y a w s v h stop = ap not (ap (is k.When) (ap first (ap (λ x. x ++ s) h.cut ∙ append_assoc h.left h.right s)) ∙ arms_begin h.left (h.right ++ s) h.value h.front)
  where
    arms_begin : (u r : Tokens) (list : List (Ast × Ast)) → AreArms u list → is k.When (first (u ++ r)) ≡ true
    arms_begin u r list (AreArms.arms x y c more cut inside others value) = ap (λ z. is k.When (first z)) (ap (λ z. z ++ r) cut ∙ append_assoc x y r) ∙ begins_first (is k.When) IsArm x (y ++ r) c begins-IsArm inside

end_out : more_else k.End ≡ false
unfolding same
end_out = refl

abbrev CaseEnd : ℕ → Option Ast → List (Ast × Ast) → Option Ast → Tokens → Ast → Type 0
CaseEnd p o list e = Word k.End (ast.Case o list e p)

abbrev CaseElse : ℕ → Option Ast → List (Ast × Ast) → Tokens → Ast → Type 0
CaseElse p o list = IsThen MaybeElse (CaseEnd p o list)

abbrev CaseArms : ℕ → Option Ast → Tokens → Ast → Type 0
CaseArms p o = IsThen AreArms (CaseElse p o)

abbrev CaseRest : ℕ → Tokens → Ast → Type 0
CaseRest p = IsThen MaybeOperand (CaseArms p)

abbrev CaseAt : ℕ → Tokens → Ast → Type 0
CaseAt p = Behind k.Case (CaseRest p)

some_operand : Inhabited MaybeOperand
some_operand = ([], None, MaybeOperand.no_operand refl refl)

some_else_then : (p : ℕ) (o : Option Ast) (list : List (Ast × Ast)) → Inhabited (CaseElse p o list)
some_else_then p o list = some_then MaybeElse (CaseEnd p o list) some_else (λ e. some_word k.End (ast.Case o list e p))

some_arms_then : (p : ℕ) (o : Option Ast) → Inhabited (CaseArms p o)
some_arms_then p o = some_then AreArms (CaseElse p o) some-AreArms (some_else_then p o)

module _ (E : Reader Ast) (n : ℕ) (law : Reads n IsExpr more_expr E) where
  reads_operand : Reads n MaybeOperand but_when (operand E)
  unfolding operand
  reads_operand = reads_by MaybeOperand OperandBy but_when n (operand_by E) into_operand operand_shape each
    where
      each : (c : Class) → Reads n (OperandBy c) but_when (operand_by E c)
      each k.When = reads_pure_in None but_when n
      each _ = reads_last IsExpr more_expr but_when n E Some within_but_when law

  reads_arm : Reads n IsArm more_expr (arm E)
  unfolding arm
  reads_arm =
      same_language IsArmLike IsArm more_expr more_expr n (arm E) into_arm of_arm (within_self more_expr)
      (reads_expect k.When (IsThen IsExpr (λ a. Behind k.Then (IsThen IsExpr (λ b. IsPure (a, b))))) more_expr n (E >>= (λ a. expect k.Then >> (E >>= (λ b. pure (a, b)))))
      (some_closed IsExpr k.Then (λ a. IsThen IsExpr (λ b. IsPure (a, b))) some-IsExpr (λ a. some_last IsExpr (λ b. (a, b)) some-IsExpr))
      (reads_closed IsExpr k.Then (λ a. IsThen IsExpr (λ b. IsPure (a, b))) more_expr more_expr n E (λ a. E >>= (λ b. pure (a, b))) refl (λ a. some_last IsExpr (λ b. (a, b)) some-IsExpr) law (λ a. reads_last IsExpr more_expr more_expr n E (λ b. (a, b)) (within_self more_expr) law)))

  reads_arms : Reads n AreArms more_arms (arms E)
  unfolding arms
  reads_arms =
      same_language (Chained IsArm IsArm (λ a more. a ∷ more)) AreArms more_arms more_arms n (arms E) to-AreArms of-AreArms (within_self more_arms)
      (reads_chained IsArm IsArm (λ a more. a ∷ more) (is k.When) more_expr more_expr n (arm E) (arm E) begins-IsArm (apart_is k.When more_expr refl) (apart_is k.When more_expr refl) (within_left more_expr (is k.When)) some-IsArm reads_arm reads_arm)

  reads_else : Reads n MaybeElse more_else (otherwise E)
  unfolding otherwise
  reads_else = reads_by MaybeElse ElseBy more_else n (otherwise_by E) into_else else_shape each
    where
      within_else : Within more_expr more_else
      within_else c = go (more_expr c) (is k.When c) (is k.Else c)
        where
          go : (a b d : Bool) → (a && not ((a || b) || d)) ≡ false
          go true b d = refl
          go false b d = refl

      each : (c : Class) → Reads n (ElseBy c) more_else (otherwise_by E c)
      each k.Else = reads_expect k.Else (IsThen IsExpr (λ a. IsPure (Some a))) more_else n (E >>= (λ a. pure (Some a))) (some_last IsExpr Some some-IsExpr) (reads_last IsExpr more_expr more_else n E Some within_else law)
      each _ = reads_pure_in None more_else n

  reads_cases : Reads (suc n) (Placed CaseAt) nothing (cases E)
  unfolding cases
  reads_cases =
      reads_placed CaseAt nothing (suc n) (λ at. expect k.Case >> (operand E >>= (λ o. arms E >>= (λ list. otherwise E >>= (λ e. expect k.End >> pure (ast.Case o list e at))))))
      (λ p. long_after (is k.Case) no_meaning (λ _. CaseRest p)) (shift_behind k.Case CaseRest (shift_then MaybeOperand CaseArms (λ o. shift_then AreArms (λ p. CaseElse p o) (λ list. shift_then MaybeElse (λ p. CaseEnd p o list) (λ e. shift_behind k.End (λ p. IsPure (ast.Case o list e p)) (shift_pure (λ p. ast.Case o list e p)))))))
      (λ p. reads_enter k.Case (CaseRest p) nothing n (operand E >>= (λ o. arms E >>= (λ list. otherwise E >>= (λ e. expect k.End >> pure (ast.Case o list e p)))))
      (some_then MaybeOperand (CaseArms p) some_operand (some_arms_then p))
      (reads_then MaybeOperand (CaseArms p) but_when nothing n (operand E) (λ o. arms E >>= (λ list. otherwise E >>= (λ e. expect k.End >> pure (ast.Case o list e p)))) (starts_arms (λ o. CaseElse p o) nothing) (some_arms_then p) reads_operand
      (λ o. reads_then AreArms (CaseElse p o) more_arms nothing n (arms E) (λ list. otherwise E >>= (λ e. expect k.End >> pure (ast.Case o list e p)))
      (starts_then more_arms more_else nothing (λ list. MaybeElse) (CaseEnd p o) starts_else (λ list. starts_behind k.End more_else nothing (λ e. IsPure (ast.Case o list e p)) end_out)) (some_else_then p o) reads_arms
      (λ list. reads_closed MaybeElse k.End (λ e. IsPure (ast.Case o list e p)) more_else nothing n (otherwise E) (λ e. pure (ast.Case o list e p)) end_out (λ e. some_pure (ast.Case o list e p)) reads_else (λ e. reads_pure (ast.Case o list e p) n)))))

-- ---- parentheses

abbrev ParensLike : Tokens → Ast → Type 0
ParensLike = Behind k.Open (IsThen IsExpr (λ a. Word k.Close a))

abbrev ExistsAt : ℕ → Tokens → Ast → Type 0
ExistsAt p = Behind k.Exists (Behind k.Open (IsThen IsSelect (λ s. Word k.Close (ast.Exists s p))))

abbrev CoalesceAt : ℕ → Tokens → Ast → Type 0
CoalesceAt p = Behind k.Coalesce (Behind k.Open (IsThen (Listed IsExpr) (λ list. Word k.Close (ast.Coalesce list p))))

close_exprs : more_exprs k.Close ≡ false
unfolding same
close_exprs = refl

reads_parens : (E : Reader Ast) (n : ℕ) → Reads n IsExpr more_expr E → Reads (suc n) ParensLike nothing (parens E)
unfolding parens
reads_parens E n law = reads_enter k.Open (IsThen IsExpr (λ a. Word k.Close a)) nothing n (E >>= (λ a. expect k.Close >> pure a)) (some_closed IsExpr k.Close (λ a. IsPure a) some-IsExpr (λ a. some_pure a))
    (reads_closed IsExpr k.Close (λ a. IsPure a) more_expr nothing n E (λ a. pure a) refl (λ a. some_pure a) law (λ a. reads_pure a n))

reads_exists : (Q : Reader Select) (n : ℕ) → Reads n IsSelect more_select Q → Reads (suc n) (Placed ExistsAt) nothing (exists Q)
unfolding exists
reads_exists Q n law =
    reads_placed ExistsAt nothing (suc n) (λ at. expect k.Exists >> (expect k.Open >> (Q >>= (λ s. expect k.Close >> pure (ast.Exists s at))))) (λ p. long_after (is k.Exists) no_meaning (λ _. Opened p))
    (shift_behind k.Exists Opened (shift_behind k.Open Inside (shift_then IsSelect (λ p s. Word k.Close (ast.Exists s p)) (λ s. shift_behind k.Close (λ p. IsPure (ast.Exists s p)) (shift_pure (λ p. ast.Exists s p))))))
    (λ p. reads_enter k.Exists (Opened p) nothing n (expect k.Open >> (Q >>= (λ s. expect k.Close >> pure (ast.Exists s p)))) (some_behind k.Open (Inside p) (some p))
    (reads_expect k.Open (Inside p) nothing n (Q >>= (λ s. expect k.Close >> pure (ast.Exists s p))) (some p) (reads_closed IsSelect k.Close (λ s. IsPure (ast.Exists s p)) more_select nothing n Q (λ s. pure (ast.Exists s p)) refl (λ s. some_pure (ast.Exists s p)) law (λ s. reads_pure (ast.Exists s p) n))))
  where
    Inside : ℕ → Tokens → Ast → Type 0
    Inside p = IsThen IsSelect (λ s. Word k.Close (ast.Exists s p))

    Opened : ℕ → Tokens → Ast → Type 0
    Opened p = Behind k.Open (Inside p)

    some : (p : ℕ) → Inhabited (Inside p)
    some p = some_closed IsSelect k.Close (λ s. IsPure (ast.Exists s p)) some-IsSelect (λ s. some_pure (ast.Exists s p))

reads_coalesce : (E : Reader Ast) (n : ℕ) → Reads n IsExpr more_expr E → Reads (suc n) (Placed CoalesceAt) nothing (coalesce E)
unfolding coalesce
reads_coalesce E n law =
    reads_placed CoalesceAt nothing (suc n) (λ at. expect k.Coalesce >> (expect k.Open >> (listed E >>= (λ s. expect k.Close >> pure (ast.Coalesce s at))))) (λ p. long_after (is k.Coalesce) no_meaning (λ _. Opened p))
    (shift_behind k.Coalesce Opened (shift_behind k.Open Inside (shift_then (Listed IsExpr) (λ p s. Word k.Close (ast.Coalesce s p)) (λ s. shift_behind k.Close (λ p. IsPure (ast.Coalesce s p)) (shift_pure (λ p. ast.Coalesce s p))))))
    (λ p. reads_enter k.Coalesce (Opened p) nothing n (expect k.Open >> (listed E >>= (λ s. expect k.Close >> pure (ast.Coalesce s p)))) (some_behind k.Open (Inside p) (some p))
    (reads_expect k.Open (Inside p) nothing n (listed E >>= (λ s. expect k.Close >> pure (ast.Coalesce s p))) (some p)
    (reads_closed (Listed IsExpr) k.Close (λ s. IsPure (ast.Coalesce s p)) more_exprs nothing n (listed E) (λ s. pure (ast.Coalesce s p)) close_exprs (λ s. some_pure (ast.Coalesce s p)) (reads_exprs E n law) (λ s. reads_pure (ast.Coalesce s p) n))))
  where
    Inside : ℕ → Tokens → Ast → Type 0
    Inside p = IsThen (Listed IsExpr) (λ s. Word k.Close (ast.Coalesce s p))

    Opened : ℕ → Tokens → Ast → Type 0
    Opened p = Behind k.Open (Inside p)

    some : (p : ℕ) → Inhabited (Inside p)
    some p = some_closed (Listed IsExpr) k.Close (λ s. IsPure (ast.Coalesce s p)) some_exprs (λ s. some_pure (ast.Coalesce s p))

-- ---- the atom, by its first token

abbrev AtomBy : Class → Tokens → Ast → Type 0
AtomBy k.Number = Placed NumberAt
AtomBy k.Text = Placed TextAt
AtomBy k.True = Placed (WordAt k.True true_node)
AtomBy k.False = Placed (WordAt k.False false_node)
AtomBy k.Null = Placed (WordAt k.Null null_node)
AtomBy k.Open = ParensLike
AtomBy k.Exists = Placed ExistsAt
AtomBy k.Coalesce = Placed CoalesceAt
AtomBy k.Case = Placed CaseAt
AtomBy _ = Placed NameAt

into_name : (u : Tokens) (a : Ast) (t : Seen) (rest : Tokens) (p : ℕ) → u ≡ t ∷ rest → is_name (class t) ≡ true → p ≡ t.at → AfterName p t.content rest a → IsAtom u a
into_name u a t rest p cut good at (AfterName.alone is) = IsAtom.column t (cut ∙ ap (λ w. t ∷ w) is.cut) good (is.value ∙ ap (λ x. ast.Name t.content x) at)
into_name u a t rest p cut good at (AfterName.dotted d) =
    IsAtom.qualified t d.token d.back.token (cut ∙ ap (λ w. t ∷ w) (d.cut ∙ ap (λ w. d.token ∷ w) (d.back.cut ∙ ap (λ w. d.back.token ∷ w) d.back.back.cut))) good (is_same k.Dot (class d.token) d.good) d.back.good
    (d.back.back.value ∙ ap (λ x. ast.Qualified t.content d.back.token.content x) at)

into_atom : (c : Class) (u : Tokens) (a : Ast) → AtomBy c u a → IsAtom u a
into_atom k.Number u a h = IsAtom.number h.token (h.cut ∙ ap (λ w. h.token ∷ w) h.back.cut) (is_same k.Number (class h.token) h.good) (h.back.value ∙ ap (λ x. ast.Number (number_in h.token) x) (ap place h.cut))
into_atom k.Text u a h = IsAtom.text h.token (h.cut ∙ ap (λ w. h.token ∷ w) h.back.cut) (is_same k.Text (class h.token) h.good) (h.back.value ∙ ap (λ x. ast.Text h.token.content x) (ap place h.cut))
into_atom k.True u a h = IsAtom.yes_word h.token (word_cut k.True (true_node (place u)) u a h) (is_same k.True (class h.token) h.good) (h.back.value ∙ ap true_node (ap place h.cut))
into_atom k.False u a h = IsAtom.no_word h.token (word_cut k.False (false_node (place u)) u a h) (is_same k.False (class h.token) h.good) (h.back.value ∙ ap false_node (ap place h.cut))
into_atom k.Null u a h = IsAtom.null h.token (word_cut k.Null (null_node (place u)) u a h) (is_same k.Null (class h.token) h.good) (h.back.value ∙ ap null_node (ap place h.cut))
into_atom k.Open u a h =
    let w = h.back.back in
    IsAtom.parens h.token h.back.left w.token (h.cut ∙ ap (λ x. h.token ∷ x) (h.back.cut ∙ ap (λ x. h.back.left ++ x) (word_cut k.Close h.back.value h.back.right a w))) (is_same k.Open (class h.token) h.good) (subst (IsExpr h.back.left) (sym w.back.value) h.back.front)
    (is_same k.Close (class w.token) w.good)
into_atom k.Exists u a h =
    let o = h.back in
    let i = o.back in
    let w = i.back in
    IsAtom.exists h.token o.token i.left i.value w.token (h.cut ∙ ap (λ x. h.token ∷ x) (o.cut ∙ ap (λ x. o.token ∷ x) (i.cut ∙ ap (λ x. i.left ++ x) (word_cut k.Close (ast.Exists i.value (place u)) i.right a w)))) (is_same k.Exists (class h.token) h.good) (is_same k.Open (class o.token) o.good) i.front (is_same k.Close (class w.token) w.good)
    (w.back.value ∙ ap (λ x. ast.Exists i.value x) (ap place h.cut))
into_atom k.Coalesce u a h =
    let o = h.back in
    let i = o.back in
    let w = i.back in
    IsAtom.coalesce h.token o.token i.left i.value w.token (h.cut ∙ ap (λ x. h.token ∷ x) (o.cut ∙ ap (λ x. o.token ∷ x) (i.cut ∙ ap (λ x. i.left ++ x) (word_cut k.Close (ast.Coalesce i.value (place u)) i.right a w)))) (is_same k.Coalesce (class h.token) h.good) (is_same k.Open (class o.token) o.good) (to-AreExprs i.left i.value i.front)
    (is_same k.Close (class w.token) w.good) (w.back.value ∙ ap (λ x. ast.Coalesce i.value x) (ap place h.cut))
into_atom k.Case u a h =
    let r = h.back in
    let l = r.back in
    let e = l.back in
    let w = e.back in
    IsAtom.cases h.token r.left l.left e.left r.value l.value e.value w.token
    (h.cut ∙ ap (λ x. h.token ∷ x) (r.cut ∙ ap (λ x. r.left ++ x) (l.cut ∙ ap (λ x. l.left ++ x) (e.cut ∙ ap (λ x. e.left ++ x) (word_cut k.End (ast.Case r.value l.value e.value (place u)) e.right a w)))))
    (is_same k.Case (class h.token) h.good) r.front l.front e.front (is_same k.End (class w.token) w.good) (w.back.value ∙ ap (λ x. ast.Case r.value l.value e.value x) (ap place h.cut))
into_atom _ u a h = into_name u a h.token h.rest (place u) h.cut h.good (ap place h.cut) h.back

name_by : (c : Class) (u : Tokens) (a : Ast) → is_name c ≡ true → Placed NameAt u a → AtomBy c u a
name_by k.Number u a good h = absurd (true≢false (sym good))
name_by k.Text u a good h = absurd (true≢false (sym good))
name_by k.True u a good h = absurd (true≢false (sym good))
name_by k.False u a good h = absurd (true≢false (sym good))
name_by k.Null u a good h = absurd (true≢false (sym good))
name_by k.Open u a good h = absurd (true≢false (sym good))
name_by k.Exists u a good h = absurd (true≢false (sym good))
name_by k.Coalesce u a good h = absurd (true≢false (sym good))
name_by k.Case u a good h = absurd (true≢false (sym good))
name_by _ u a good h = h

led_at : (u s : Tokens) (a : Ast) (t : Seen) (w : Tokens) (c : Class) → u ≡ t ∷ w → class t ≡ c → AtomBy c u a → AtomBy (first (u ++ s)) u a
led_at u s a t w c cut good h = subst (λ d. AtomBy d u a) (sym (ap (λ x. first (x ++ s)) cut ∙ good)) h

word_at : (c : Class) (node : ℕ → Ast) (u : Tokens) (a : Ast) (t : Seen) → u ≡ t ∷ [] → class t ≡ c → a ≡ node t.at → Placed (WordAt c node) u a
word_at c node u a t cut good value = behind c (IsPure (node (place u))) u a t [] cut good (record { cut = refl; value = value ∙ ap node (sym (ap place cut)) })

atom_shape : (u s : Tokens) (a : Ast) → IsAtom u a → Stops more_atom s → AtomBy (first (u ++ s)) u a
atom_shape u s a (IsAtom.number t cut good value) stop = led_at u s a t [] k.Number cut good (record { token = t; rest = []; cut = cut; good = same_is k.Number (class t) good; back = record { cut = refl; value = value ∙ ap (λ x. ast.Number (number_in t) x) (sym (ap place cut)) } })
atom_shape u s a (IsAtom.text t cut good value) stop = led_at u s a t [] k.Text cut good (record { token = t; rest = []; cut = cut; good = same_is k.Text (class t) good; back = record { cut = refl; value = value ∙ ap (λ x. ast.Text t.content x) (sym (ap place cut)) } })
atom_shape u s a (IsAtom.yes_word t cut good value) stop = led_at u s a t [] k.True cut good (word_at k.True true_node u a t cut good value)
atom_shape u s a (IsAtom.no_word t cut good value) stop = led_at u s a t [] k.False cut good (word_at k.False false_node u a t cut good value)
atom_shape u s a (IsAtom.null t cut good value) stop = led_at u s a t [] k.Null cut good (word_at k.Null null_node u a t cut good value)
atom_shape u s a (IsAtom.column t cut good value) stop = name_by (first (u ++ s)) u a (ap is_name (ap (λ x. first (x ++ s)) cut) ∙ good)
    (record { token = t; rest = []; cut = cut; good = good; back = AfterName.alone (record { cut = refl; value = value ∙ ap (λ x. ast.Name t.content x) (sym (ap place cut)) }) })
atom_shape u s a (IsAtom.qualified q dot t cut good dot_is name_is value) stop = name_by (first (u ++ s)) u a (ap is_name (ap (λ x. first (x ++ s)) cut) ∙ good) (record {
  token = q;
  rest = dot ∷ t ∷ [];
  cut = cut;
  good = good;
  back = AfterName.dotted (behind k.Dot (Named (λ n. IsPure (ast.Qualified q.content n (place u)))) (dot ∷ t ∷ []) a dot (t ∷ []) refl dot_is (record { token = t; rest = []; cut = refl; good = name_is; back = record { cut = refl; value = value ∙ ap (λ x. ast.Qualified q.content t.content x) (sym (ap place cut)) } }));
})
atom_shape u s a (IsAtom.parens left x right cut good inside close) stop = led_at u s a left (x ++ (right ∷ [])) k.Open cut good
    (behind k.Open (IsThen IsExpr (λ b. Word k.Close b)) u a left (x ++ (right ∷ [])) cut good (record { left = x; right = right ∷ []; value = a; cut = refl; front = inside; back = word k.Close a right a close refl }))
atom_shape u s a (IsAtom.exists word' left x q right cut good open' inside close value) stop = led_at u s a word' (left ∷ (x ++ (right ∷ []))) k.Exists cut good
    (behind k.Exists (Behind k.Open (IsThen IsSelect (λ b. Word k.Close (ast.Exists b (place u))))) u a word' (left ∷ (x ++ (right ∷ []))) cut good
    (behind k.Open (IsThen IsSelect (λ b. Word k.Close (ast.Exists b (place u)))) (left ∷ (x ++ (right ∷ []))) a left (x ++ (right ∷ [])) refl open'
    (record { left = x; right = right ∷ []; value = q; cut = refl; front = inside; back = word k.Close (ast.Exists q (place u)) right a close (value ∙ ap (λ y. ast.Exists q y) (sym (ap place cut))) })))
atom_shape u s a (IsAtom.coalesce word' left x list right cut good open' inside close value) stop = led_at u s a word' (left ∷ (x ++ (right ∷ []))) k.Coalesce cut good
    (behind k.Coalesce (Behind k.Open (IsThen (Listed IsExpr) (λ b. Word k.Close (ast.Coalesce b (place u))))) u a word' (left ∷ (x ++ (right ∷ []))) cut good
    (behind k.Open (IsThen (Listed IsExpr) (λ b. Word k.Close (ast.Coalesce b (place u)))) (left ∷ (x ++ (right ∷ []))) a left (x ++ (right ∷ [])) refl open'
    (record { left = x; right = right ∷ []; value = list; cut = refl; front = of-AreExprs x list inside; back = word k.Close (ast.Coalesce list (place u)) right a close (value ∙ ap (λ y. ast.Coalesce list y) (sym (ap place cut))) })))
atom_shape u s a (IsAtom.cases word' o l e operand' list otherwise' end cut good some arms' other end_is value) stop = led_at u s a word' (o ++ (l ++ (e ++ (end ∷ [])))) k.Case cut good
    (behind k.Case (CaseRest (place u)) u a word' (o ++ (l ++ (e ++ (end ∷ [])))) cut good (record {
      left = o;
      right = l ++ (e ++ (end ∷ []));
      value = operand';
      cut = refl;
      front = some;
      back = record {
        left = l;
        right = e ++ (end ∷ []);
        value = list;
        cut = refl;
        front = arms';
        back = record { left = e; right = end ∷ []; value = otherwise'; cut = refl; front = other; back = word k.End (ast.Case operand' list otherwise' (place u)) end a end_is (value ∙ ap (λ y. ast.Case operand' list otherwise' y) (sym (ap place cut))) };
      };
    }))

pub reads_atom : (E : Reader Ast) (Q : Reader Select) (n : ℕ) → Reads n IsExpr more_expr E → Reads n IsSelect more_select Q → Reads (suc n) IsAtom more_atom (atom E Q)
unfolding atom
reads_atom E Q n expr_law select_law = reads_by IsAtom AtomBy more_atom (suc n) (atom_by E Q) into_atom atom_shape each
  where
    plain : (L : Tokens → Ast → Type 0) (p : Reader Ast) → Reads (suc n) L nothing p → Reads (suc n) L more_atom p
    plain L p law = wider L nothing more_atom (suc n) p (within_nothing more_atom) law

    each : (c : Class) → Reads (suc n) (AtomBy c) more_atom (atom_by E Q c)
    each k.Number = plain (Placed NumberAt) number_atom (reads_number n)
    each k.Text = plain (Placed TextAt) text_atom (reads_text n)
    each k.True = plain (Placed (WordAt k.True true_node)) (word_atom k.True true_node) (reads_word_atom k.True true_node n)
    each k.False = plain (Placed (WordAt k.False false_node)) (word_atom k.False false_node) (reads_word_atom k.False false_node n)
    each k.Null = plain (Placed (WordAt k.Null null_node)) (word_atom k.Null null_node) (reads_word_atom k.Null null_node n)
    each k.Open = plain ParensLike (parens E) (reads_parens E n expr_law)
    each k.Exists = plain (Placed ExistsAt) (exists Q) (reads_exists Q n select_law)
    each k.Coalesce = plain (Placed CoalesceAt) (coalesce E) (reads_coalesce E n expr_law)
    each k.Case = plain (Placed CaseAt) (cases E) (reads_cases E n expr_law)
    each _ = reads_name n
