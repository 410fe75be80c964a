-- A list of blocks isn't long: a block makes few without those of sublinks, and there are few sublinks.
use Rattle.std.proofs.Common.{◌≡◌, ◌∙◌, ap, sym, refl, subst, ℕ, suc, ◌+◌, ◌*◌, ◌<◌, ◌≤◌, ◌^◌, inl, inr, List, [], ◌∷◌, ◌++◌, length, slice_get, Option, Some, None, length-append, arith}
use Rattle.std.specs.Prelude.{Contains}
use Rattle.std.specs.List.{sum_by}
use Rattle.std.proofs.lemmas.List.Sums.{sum_by-append}
use Rattle.jp_facts.proofs.Members.{Distinct, In, from_in}
use Rattle.jp_query.specs.declared.Query.{Query}
use Rattle.jp_query.specs.Freshness.{IsFresh, Sublink, sublinks_in}
use Rattle.jp_problem.specs.InnerBlocks.{IsBlockOf, inner_blocks}
use Rattle.jp_problem.specs.Made.{IsBlock}
use Rattle.jp_special.proofs.BlockSize.{at_most}
use Rattle.jp_prepared.specs.Nests.{nest}
use Rattle.jp_prepared.proofs.BlockLaws.{blocks_are_blocks, few_blocks}
use Rattle.jp_prepared.proofs.NestLaws.{nest_is}
use Rattle.jp_session.specs.declared.gathering.Entry.{Entry}
use Rattle.jp_session.specs.declared.sources.Part.{Part}
use Rattle.jp_session.specs.Parts.{item_part, parts_of}
use Rattle.jp_session.specs.Visits.{IsPut, Visits, with_block}
use Rattle.jp_session.proofs.BlockLaws.{by_sub, item_queries, not_item, of_block}
use Rattle.jp_session.proofs.NextLaws.{as_inner}
use Rattle.jp_session.proofs.SourceLaws.{is_inside, not_before, uses}
use Rattle.jp_session.proofs.VisitLaws.{block_of}

-- ---- the numbers of sublinks that have a block

abbrev with_number : Option ℕ → List ℕ → List ℕ
with_number (Some n) more = n ∷ more
with_number None more = more

abbrev numbers : List Entry → List ℕ
numbers [] = []
numbers (e ∷ es) = with_number e.part.sub (numbers es)

numbers_behind : (o : Option ℕ) (xs ys zs : List ℕ) → zs ≡ xs ++ ys → with_number o zs ≡ with_number o xs ++ ys
numbers_behind (Some n) xs ys zs e = ap (λ ns. n ∷ ns) e
numbers_behind None xs ys zs e = e

numbers_both : (es fs : List Entry) → numbers (es ++ fs) ≡ numbers es ++ numbers fs
numbers_both [] fs = refl
numbers_both (e ∷ es) fs = numbers_behind e.part.sub (numbers es) (numbers fs) (numbers (es ++ fs)) (numbers_both es fs)

one_item : (b : List Entry) (part : Part) (inner : List ℕ) → part.sub ≡ None → length (numbers (with_block b part inner)) ≡ length (numbers b)
one_item b part inner s = omega (arith, ap length (numbers_both b (block_of part inner ∷ [])), length-append (numbers b) (numbers (block_of part inner ∷ [])), ap (λ o. length (with_number o [])) s)

one_sublink : (b : List Entry) (part : Part) (inner : List ℕ) (n : ℕ) → part.sub ≡ Some n → length (numbers (with_block b part inner)) ≡ length (numbers b) + 1
one_sublink b part inner n s = omega (arith, ap length (numbers_both b (block_of part inner ∷ [])), length-append (numbers b) (numbers (block_of part inner ∷ [])), ap (λ o. length (with_number o [])) s)

-- ---- what the parts make without those of sublinks

abbrev nests : List Part → ℕ
nests parts = sum_by nest (item_queries parts)

first_nest : (q : Query) (qs : List Query) → sum_by nest (q ∷ qs) ≡ nest q + sum_by nest qs
first_nest q qs = sum_by-append nest (q ∷ []) qs ∙ ap (λ n. n + sum_by nest qs) (alone q)
  where
    alone : (p : Query) → sum_by nest (p ∷ []) ≡ nest p
    alone p = omega arith

item_nests : (part : Part) (parts : List Part) → part.sub ≡ None → nests (part ∷ parts) ≡ nest part.query + nests parts
item_nests part parts s = ap (sum_by nest) (by_sub part.sub part.query (item_queries parts) s) ∙ first_nest part.query (item_queries parts)

sublink_nests : (part : Part) (parts : List Part) (n : ℕ) → part.sub ≡ Some n → nests (part ∷ parts) ≡ nests parts
sublink_nests part parts n s = ap (sum_by nest) (not_item part.sub n part.query (item_queries parts) s)

block_nests : (q : Query) → nest q ≡ 1 + nests (parts_of q)
block_nests q = nest_is q ∙ ap (λ qs. 1 + sum_by nest qs) (sym (of_block q))

abbrev AreBlocks : List Part → Type 0
AreBlocks parts = (part : Part) → In part parts → IsBlock part.query

inner_are : (q : Query) → IsBlock q → AreBlocks (parts_of q)
inner_are q is part h = blocks_are_blocks q part.query is (IsBlockOf.inside IsBlockOf.itself (from_in part.query (inner_blocks q) (as_inner q part (uses q part h))))

length_more : (b : List Entry) (part : Part) (inner : List ℕ) → length (with_block b part inner) ≡ length b + 1
length_more b part inner = length-append b (block_of part inner ∷ [])

counted : {a c : List Entry} {ts : List Part} {ps : List ℕ} → Visits a ts ps c → AreBlocks ts → length c + 192 * length (numbers a) ≤ length a + nests ts + 192 * length (numbers c)
counted (Visits.done {a} {c} e) = λ are. omega (arith, ap length e, ap (λ es. length (numbers es)) e)
counted (Visits.item {a} {b} {c} {part} {parts} {inner} {places} s v w) = λ are.
    omega (arith, counted v (inner_are part.query (are part (inl refl))), counted w (λ p h. are p (inr h)), item_nests part parts s, block_nests part.query, length_more b part inner, one_item b part inner s)
counted (Visits.sublink {a} {b} {c} {part} {parts} {inner} {places} k s l v w) = λ are.
    omega (arith, counted v (inner_are part.query (are part (inl refl))), counted w (λ p h. are p (inr h)), sublink_nests part parts k s, block_nests part.query, few_blocks part.query (are part (inl refl)), length_more b part inner, one_sublink b part inner k s)
counted (Visits.known {a} {c} {part} {parts} k s l w) = λ are. omega (arith, counted w (λ p h. are p (inr h)), sublink_nests part parts k s)

-- ---- each number stands once, and is below 16

-- a member of the numbers is that of a place
record HasPlace (es : List Entry) (n : ℕ) : Type 0 where
  place : ℕ
  entry : Entry
  there : slice_get es place ≡ Some entry
  is : entry.part.sub ≡ Some n

by_number : (e : Entry) (es : List Entry) (n : ℕ) (o : Option ℕ) → e.part.sub ≡ o → (In n (numbers es) → HasPlace es n) → In n (with_number o (numbers es)) → HasPlace (e ∷ es) n
by_number e es n (Some m) s rest (inl g) = record { place = 0; entry = e; there = refl; is = s ∙ ap Some g }
by_number e es n (Some m) s rest (inr g) = let p = rest g in record { place = suc p.place; entry = p.entry; there = p.there; is = p.is }
by_number e es n None s rest g = let p = rest g in record { place = suc p.place; entry = p.entry; there = p.there; is = p.is }

number_place : (es : List Entry) (n : ℕ) → In n (numbers es) → HasPlace es n
number_place [] n h = absurd h
number_place (e ∷ es) n h = by_number e es n e.part.sub refl (number_place es n) h

abbrev NoneTwice : List Entry → Type 0
NoneTwice es = (i j n : ℕ) (x y : Entry) → i < j → slice_get es i ≡ Some x → slice_get es j ≡ Some y → x.part.sub ≡ Some n → y.part.sub ≡ Some n → ⊥

by_first : (e : Entry) (es : List Entry) (o : Option ℕ) → e.part.sub ≡ o → NoneTwice (e ∷ es) → Distinct (numbers es) → Distinct (with_number o (numbers es))
by_first e es (Some m) s h rest = (λ g. (let p = number_place es m g in h 0 (suc p.place) m e p.entry (omega arith) refl p.there s p.is), rest)
by_first e es None s h rest = rest

distinct : (es : List Entry) → NoneTwice es → Distinct (numbers es)
distinct [] h = tt
distinct (e ∷ es) h = by_first e es e.part.sub refl h (distinct es (λ i j n x y less hx hy sx sy. h (suc i) (suc j) n x y (omega (arith, less)) hx hy sx sy))

module _ (q : Query) (entries : List Entry) (put : IsPut [] (item_part q) entries) (fresh : IsFresh q) (is : IsBlock q) where
  low : (n : ℕ) → In n (numbers entries) → n < 16
  low n h =
      let p = number_place entries n h in
      let t = (is_inside q entries put p.place p.entry p.there).itself n p.is in
      let f = number_of_sublink t.sublink (from_in t.sublink (sublinks_in q) t.there) in
      omega (arith, f.1, t.numbered)
    where
      number_of_sublink : (s : Sublink) → Contains (sublinks_in q) s → (1 ≤ s.number) × (s.number ≤ 15)
      number_of_sublink s c = subst (λ (x : Sublink). (1 ≤ x.number) × (x.number ≤ 15)) c.2 (fresh.numbers c.0 s c.1)

  few_numbers : length (numbers entries) ≤ 16
  few_numbers = at_most 16 (numbers entries) (distinct entries (not_before q entries put fresh)) low

  alone : AreBlocks (item_part q ∷ [])
  alone part (inl e) = subst (λ (p : Part). IsBlock p.query) e is
  alone part (inr r) = absurd r

  whole : Visits [] (item_part q ∷ []) (length put.used ∷ []) entries
  whole = subst (Visits [] (item_part q ∷ []) (length put.used ∷ [])) (sym put.is) (Visits.item refl put.visits (Visits.done refl))

  pub few_entries : length entries ≤ 2 ^ 32
  few_entries = omega (arith, counted whole alone, few_numbers, few_blocks q is, item_nests (item_part q) [] refl)
