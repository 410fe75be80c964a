-- Where the answer is an output, each file that it reads is there.
use Rattle.std.proofs.Common.{◌≡◌, subst, refl, inl, inr, ℕ, true, List, [], ◌∷◌, Option, Some, None, Result, Ok, Err, is_some}
use Rattle.std.specs.Prelude.{Contains, slice_get}
use Rattle.jp_facts.proofs.Members.{In, to_in, from_append}
use Rattle.jp_catalog.specs.declared.types.Catalog.{Catalog}
use Rattle.jp_ast.specs.declared.tree.Stmt.{Stmt}
use Rattle.jp_query.specs.Mentions.{tables_mentioned}
use Rattle.jp_query.specs.Tables.{TableRows}
use Rattle.jp_query.specs.declared.Query.{Query}
use Rattle.joinplan.specs.declared.refusal.Refusal.{Refusal}
use Rattle.joinplan.specs.declared.refusal.Refusal.TheVariants as refusal
use Rattle.joinplan.specs.Answers.{NamedTable, Output, as_output, bytes_or_refuse, answer_in, answer_of, explain_in, plan_in, planned_in, catalogue_in, check_in, counts_in, file_limit, none_loaded, output_in, query_in, query_of, read_into, run_in, selected_in, source_in, statement_in, statement_limit, table_in, tables_read, text_in, with_count, with_table}
use Rattle.joinplan.specs.Readings.{Held, Reading, after, content_of, fold_in}
use Rattle.joinplan.specs.Words.{Command, Run, Explain, Check, command_of}

module _ (held : Held) where
  abbrev pub IsThere : List ℕ → Type 0
  IsThere name = is_some (held name) ≡ true

  abbrev Holds : {A : Type 0} → List (List ℕ) → Result A Refusal → Type 0
  Holds {A} names answer = (a : A) → answer ≡ Ok a → (name : List ℕ) → In name names → IsThere name

  none_read : {A : Type 0} (answer : Result A Refusal) → Holds [] answer
  none_read answer a e name within = absurd within

  there : (name : List ℕ) (limit : ℕ) (r : Refusal) (o : Option (List ℕ)) (bytes : List ℕ) → content_of name limit r o ≡ Ok bytes → is_some o ≡ true
  there name limit r (Some x) bytes e = refl
  there name limit r None bytes e = cc

  one_read : (name : List ℕ) (limit : ℕ) (r : Refusal) → Holds (name ∷ []) (content_of name limit r (held name))
  one_read name limit r bytes e other (inl same) = subst IsThere same (there name limit r (held name) bytes e)
  one_read name limit r bytes e other (inr within) = absurd within

  then_read : {A B : Type 0} (names : List (List ℕ)) (answer : Result A Refusal) (next : A → Reading B) → Holds names answer → ((a : A) → Holds (next a).names (next a).answer) → Holds (after names answer next).names (after names answer next).answer
  then_read names (Err r) next first rest b e name within = cc
  then_read names (Ok a) next first rest b e name within =
      elim (from_append name names (next a).names within) [
        | inl left ↦ first a refl name left
        | inr right ↦ rest a b e name right
      ]

  all_read : {A X : Type 0} (step : A → X → Reading A) (value : A) (xs : List X) → ((a : A) (x : X) → Holds (step a x).names (step a x).answer) → Holds (fold_in step value xs).names (fold_in step value xs).answer
  all_read step value [] one = none_read (Ok value)
  all_read step value (x ∷ xs) one = then_read (step value x).names (step value x).answer (λ next. fold_in step next xs) (one value x) (λ next. all_read step next xs one)

  text_read : (name : List ℕ) → Holds (text_in held name).names (text_in held name).answer
  text_read name = one_read name file_limit (refusal.FileTooLarge name)

  catalogue_read : (name : List ℕ) → Holds (catalogue_in held name).names (catalogue_in held name).answer
  catalogue_read name = then_read (text_in held name).names (text_in held name).answer _ (text_read name) (λ bytes. none_read _)

  statement_read : (name : List ℕ) → Holds (statement_in held name).names (statement_in held name).answer
  statement_read name = then_read (source_in held name).names (source_in held name).answer _ (one_read name statement_limit refusal.StatementTooLarge) (λ source. none_read _)

  table_read : (table : NamedTable) → Holds (table_in held table).names (table_in held table).answer
  table_read table = then_read (text_in held table.1.file).names (text_in held table.1.file).answer _ (text_read table.1.file) (λ bytes. none_read _)

  place_read : (tables : TableRows) (place : ℕ) (o : Option NamedTable) → Holds (read_into held tables place o).names (read_into held tables place o).answer
  place_read tables place None = none_read _
  place_read tables place (Some table) = then_read (table_in held table).names (table_in held table).answer _ (table_read table) (λ rows. none_read _)

  places_read : (catalog : Catalog) (query : Query) → Holds (tables_read held catalog query).names (tables_read held catalog query).answer
  places_read catalog query = all_read (with_table held catalog) (none_loaded catalog) (tables_mentioned query) (λ tables place. place_read tables place (slice_get catalog.tables place))

  output_read : (catalog : Catalog) (query : Query) → Holds (output_in held catalog query).names (output_in held catalog query).answer
  output_read catalog query = then_read (tables_read held catalog query).names (tables_read held catalog query).answer _ (places_read catalog query) (λ tables. none_read _)

  selected_read : (catalog : Catalog) (stmt : Stmt) → Holds (selected_in held catalog stmt).names (selected_in held catalog stmt).answer
  selected_read catalog stmt = then_read [] (query_of catalog stmt) (output_in held catalog) (none_read (query_of catalog stmt)) (output_read catalog)

  query_read : (name : List ℕ) (catalog : Catalog) → Holds (query_in held name catalog).names (query_in held name catalog).answer
  query_read name catalog = then_read (statement_in held name).names (statement_in held name).answer (selected_in held catalog) (statement_read name) (selected_read catalog)

  run_read : (catalogue statement : List ℕ) → Holds (run_in catalogue statement held).names (run_in catalogue statement held).answer
  run_read catalogue statement = then_read (catalogue_in held catalogue).names (catalogue_in held catalogue).answer (query_in held statement) (catalogue_read catalogue) (query_read statement)

  count_read : (text : List ℕ) (table : NamedTable) → Holds (with_count held text table).names (with_count held text table).answer
  count_read text table = then_read (table_in held table).names (table_in held table).answer _ (table_read table) (λ rows. none_read _)

  check_read : (catalogue : List ℕ) → Holds (check_in catalogue held).names (check_in catalogue held).answer
  check_read catalogue = then_read (catalogue_in held catalogue).names (catalogue_in held catalogue).answer (counts_in held) (catalogue_read catalogue) (λ catalog. all_read (with_count held) [] catalog.tables count_read)

  planned_read : (catalog : Catalog) (stmt : Stmt) → Holds (planned_in catalog stmt).names (planned_in catalog stmt).answer
  planned_read catalog stmt = then_read [] (query_of catalog stmt) _ (none_read (query_of catalog stmt)) (λ query. none_read _)

  plan_read : (name : List ℕ) (catalog : Catalog) → Holds (plan_in held name catalog).names (plan_in held name catalog).answer
  plan_read name catalog = then_read (statement_in held name).names (statement_in held name).answer (planned_in catalog) (statement_read name) (planned_read catalog)

  explain_read : (catalogue statement : List ℕ) → Holds (explain_in catalogue statement held).names (explain_in catalogue statement held).answer
  explain_read catalogue statement = then_read (catalogue_in held catalogue).names (catalogue_in held catalogue).answer (plan_in held statement) (catalogue_read catalogue) (plan_read statement)

  as_output_read : (names : List (List ℕ)) (answer : Result (List ℕ) Refusal) → Holds names answer → Holds names (bytes_or_refuse answer)
  as_output_read names (Ok bytes) read output e name within = read bytes refl name within
  as_output_read names (Err r) read output e name within = cc

  command_read : (o : Option Command) → Holds (answer_in o held).names (answer_in o held).answer
  command_read None = none_read _
  command_read (Some (Run catalogue statement)) = run_read catalogue statement
  command_read (Some (Explain catalogue statement)) = explain_read catalogue statement
  command_read (Some (Check catalogue)) = as_output_read _ (check_in catalogue held).answer (check_read catalogue)

  pub names_held : (words : List (List ℕ)) (output : Output) → (answer_of words held).answer ≡ Ok output → (name : List ℕ) → Contains (answer_of words held).names name → IsThere name
  names_held words output e name within = command_read (command_of words) output e name (to_in name (answer_of words held).names within)
