-- The answer where the contents are told, taken apart.
use Rattle.std.proofs.Common.{inl, inr, subst, ◌≡◌, ◌⊎◌, ℕ, zero, suc, ◌<◌, ◌≤◌, List, [], ◌∷◌, ◌++◌, length, map, cond, Option, Some, None, Result, Ok, Err, Vec, Global, refl, sym, ◌∙◌, ap, arith, append_assoc}
use Rattle.std.specs.Prelude.{All, MatchResult, nat_le, slice_get, slice_set}
use Rattle.std.proofs.lemmas.Option.{slice_get_within}
use Rattle.std.proofs.lemmas.Bool.{cases_Bool, leb-true}
use Rattle.std.proofs.lemmas.List.{append-nil, length-map}
use Rattle.std.proofs.lemmas.List.Elements.{All-append, All-nil, All-weaker}
use Rattle.jp_catalog.specs.Reading.{catalogue_of}
use Rattle.jp_catalog.specs.declared.types.Catalog.{Catalog}
use Rattle.jp_io.specs.Sinks.{TookMore}
use Rattle.jp_query.specs.Tables.{TableRows, IsLoaded}
use Rattle.jp_query.specs.Mentions.{tables_mentioned}
use Rattle.jp_lex.specs.Answer as cutting
use Rattle.jp_lex.specs.Cutting.{Refused, Tokens}
use Rattle.jp_query.specs.declared.Query.{Query}
use Rattle.jp_query.specs.Parts.{tables_in}
use Rattle.jp_table.specs.Loading.{table_of}
use Rattle.jp_resolution.specs.Resolving.{resolved}
use Rattle.joinplan.specs.declared.refusal.Refusal.{Refusal}
use Rattle.joinplan.specs.declared.refusal.Refusal.TheVariants as refusal
use Rattle.joinplan.specs.Refusals.{resolve_refusal}
use Rattle.joinplan.specs.Answers.{NamedTable, Rows, Output, Bytes, PlanOf, RowsOf, HasBytes, IsListText, PrintsTold, answer_in, answer_of, bytes_or_refuse, explain_in, plan_in, planned_in, catalogue_in, check_in, count_line, counts_in, file_limit, none_loaded, output_in, query_in, query_of, read_into, rows_listed, run_in, selected_in, source_in, statement_in, statement_limit, table_in, tables_read, text_in, with_count, with_table}
use Rattle.joinplan.specs.Headline.{AreCounted, HasCatalogue, HasPlace, HasRows, HasTables, IsAnswerTo, IsCount, IsHeld, IsListed, IsListedAnswer, IsOrderedAnswer, IsPlanText, PrintsSuch}
use Rattle.joinplan.specs.Readings.{Held, Reading, after, content_of, fold_in}
use Rattle.joinplan.specs.Words.{Command, Run, Explain, Check, command_of}
use Rattle.joinplan.proofs.StatementLemmas.{found, statement_found}
use Rattle.joinplan.proofs.TableLemmas.{all_of_each, only_one, set_loaded, still_loaded}

-- a value comes of a value of the first part
came_of : {A B : Type 0} (names : List (List ℕ)) (answer : Result A Refusal) (next : A → Reading B) (b : B) → (after names answer next).answer ≡ Ok b → (a : A) × (answer ≡ Ok a) × ((next a).answer ≡ Ok b)
came_of names (Ok a) next b e = (a, refl, e)
came_of names (Err r) next b e = cc

content_held : (held : Held) (name : List ℕ) (limit : ℕ) (r : Refusal) (there : Option (List ℕ)) (bytes : List ℕ) → held name ≡ there → content_of name limit r there ≡ Ok bytes → IsHeld held name limit bytes
content_held held name limit r None bytes at e = cc
content_held held name limit r (Some text) bytes at e =
    elim (cases_Bool (nat_le (length text) limit)) [
      | inl fits ↦
          let is : Ok text ≡ Ok bytes = ap (λ b. cond b (Ok text) (Err r)) (sym fits) ∙ e in
          let same : text ≡ bytes = cc in
          record { there = at ∙ ap Some same; fits = subst (λ bs. length bs ≤ limit) same (leb-true (length text) limit fits) }
      | inr passes ↦ let is : Err r ≡ Ok bytes = ap (λ b. cond b (Ok text) (Err r)) (sym passes) ∙ e in absurd cc
    ]

has_catalogue : (held : Held) (name : List ℕ) (catalog : Catalog) → (catalogue_in held name).answer ≡ Ok catalog → HasCatalogue held name catalog
has_catalogue held name catalog e =
    let (text, text_read, known) = came_of (text_in held name).names (text_in held name).answer _ catalog e in
    record { text = text; is_held = content_held held name file_limit _ (held name) text refl text_read; catalogue_is = found refusal.Catalogue (catalogue_of text) catalog known }

has_rows : (held : Held) (table : NamedTable) (rows : Rows) → (table_in held table).answer ≡ Ok rows → HasRows held table rows
has_rows held table rows e =
    let (text, text_read, known) = came_of (text_in held table.1.file).names (text_in held table.1.file).answer _ rows e in
    record { text = text; is_held = content_held held table.1.file file_limit _ (held table.1.file) text refl text_read; rows_are = found (refusal.Data table.0) (table_of table.1 text) rows known }

-- ---- the tables of a query

length-set : (tables : TableRows) (place : ℕ) (rows : Rows) → length (slice_set tables place (Some rows)) ≡ length tables
length-set [] place rows = refl
length-set (table ∷ tables) zero rows = refl
length-set (table ∷ tables) (suc place) rows = ap suc (length-set tables place rows)

set_from : (tables : TableRows) (place other : ℕ) (rows own : Rows) → slice_get (slice_set tables place (Some rows)) other ≡ Some (Some own) → ((other ≡ place) × (own ≡ rows)) ⊎ (slice_get tables other ≡ Some (Some own))
set_from [] place other rows own e = inr e
set_from (table ∷ tables) zero zero rows own e = inl (refl, cc)
set_from (table ∷ tables) zero (suc other) rows own e = inr e
set_from (table ∷ tables) (suc place) zero rows own e = inr e
set_from (table ∷ tables) (suc place) (suc other) rows own e =
    elim (set_from tables place other rows own e) [
      | inl here ↦ inl (ap suc here.0, here.1)
      | inr there ↦ inr there
    ]

none_there : (tables : List NamedTable) (place : ℕ) (rows : Rows) → slice_get (map {B = Option Rows} (λ table. None) tables) place ≡ Some (Some rows) → ⊥
none_there [] place rows e = cc
none_there (table ∷ tables) zero rows e = cc
none_there (table ∷ tables) (suc place) rows e = none_there tables place rows e

module _ (held : Held) (catalog : Catalog) where
  -- the rows of a place are those of the catalogue's table there
  abbrev IsFrom : ℕ → Rows → Type 0
  IsFrom place rows = (table : NamedTable) × (slice_get catalog.tables place ≡ Some table) × HasRows held table rows

  record Good (tables : TableRows) : Type 0 where
    places : length tables ≡ length catalog.tables
    from : (place : ℕ) (rows : Rows) → slice_get tables place ≡ Some (Some rows) → IsFrom place rows

  none_good : Good (none_loaded catalog)
  none_good = record { places = length-map catalog.tables (λ table. None); from = λ place rows e. absurd (none_there catalog.tables place rows e) }

  set_good : (tables : TableRows) (place : ℕ) (rows : Rows) → IsFrom place rows → Good tables → Good (slice_set tables place (Some rows))
  set_good tables place rows is good = record {
    places = length-set tables place rows ∙ good.places;
    from = λ other own e. elim (set_from tables place other rows own e) [
      | inl here ↦ subst (λ x. IsFrom other x) (sym here.1) (subst (λ n. IsFrom n rows) (sym here.0) is)
      | inr there ↦ good.from other own there
    ];
  }

  abbrev Kept : TableRows → TableRows → Type 0
  Kept before now = (place : ℕ) → IsLoaded before place → IsLoaded now place

  record After (before now : TableRows) (places : List ℕ) : Type 0 where
    good : Good now
    loaded : All (IsLoaded now) places
    kept : Kept before now

  read_after : (tables now : TableRows) (place : ℕ) (named : Option NamedTable) → slice_get catalog.tables place ≡ named → Good tables → (read_into held tables place named).answer ≡ Ok now → After tables now (place ∷ [])
  read_after tables now place None is good e = cc
  read_after tables now place (Some table) is good e =
      let (rows, rows_read, known) = came_of (table_in held table).names (table_in held table).answer _ now e in
      let below : place < length tables = omega (arith, good.places, slice_get_within catalog.tables place table is) in
      let done : slice_set tables place (Some rows) ≡ now = cc in
      subst (λ t. After tables t (place ∷ [])) done (record {
        good = set_good tables place rows (table, is, has_rows held table rows rows_read) good;
        loaded = only_one (IsLoaded (slice_set tables place (Some rows))) place (set_loaded tables place rows below);
        kept = λ other h. still_loaded tables place other rows h;
      })

  all_after : (places : List ℕ) (tables now : TableRows) → Good tables → (fold_in (with_table held catalog) tables places).answer ≡ Ok now → After tables now places
  all_after [] tables now good e =
      let same : tables ≡ now = cc in
      subst (λ t. After tables t []) same (record { good = good; loaded = All-nil _; kept = λ other h. h })
  all_after (place ∷ places) tables now good e =
      let (next, next_read, rest) = came_of (with_table held catalog tables place).names (with_table held catalog tables place).answer _ now e in
      let first = read_after tables next place (slice_get catalog.tables place) refl good next_read in
      let more = all_after places next now first.good rest in
      record {
        good = more.good;
        loaded = All-append (IsLoaded now) (place ∷ []) places (All-weaker (IsLoaded next) (IsLoaded now) more.kept (place ∷ []) first.loaded) more.loaded;
        kept = λ other h. more.kept other (first.kept other h);
      }

  placed : (tables : TableRows) → Good tables → (place : ℕ) → IsLoaded tables place → HasPlace held catalog tables place
  placed tables good place (rows, stored) =
      let (table, at, is) = good.from place rows stored in
      record { table = table; listed = at; rows = rows; rows_are = is; stored = stored }

  has_tables : (query : Query) (tables : TableRows) → (tables_read held catalog query).answer ≡ Ok tables → HasTables held catalog query tables
  has_tables query tables e =
      let done = all_after (tables_mentioned query) (none_loaded catalog) tables none_good e in
      record { places = done.good.places; named = All-weaker (IsLoaded tables) (HasPlace held catalog tables) (placed tables done.good) (tables_in query) (all_of_each (IsLoaded tables) (tables_in query) done.loaded) }

module _ (law : (src : List ℕ) → MatchResult (cutting.answer src) (Tokens src) (Refused src)) where
  run_answer : (held : Held) (catalogue statement bytes : List ℕ) (output : Output) → (run_in catalogue statement held).answer ≡ Ok output → HasBytes output bytes → IsListed held catalogue statement bytes
  run_answer held catalogue statement bytes output e has =
      let (catalog, catalog_read, rest) = came_of (catalogue_in held catalogue).names (catalogue_in held catalogue).answer (query_in held statement) output e in
      let (stmt, stmt_read, selected) = came_of (statement_in held statement).names (statement_in held statement).answer (selected_in held catalog) output rest in
      let (source, source_read, stmt_known) = came_of (source_in held statement).names (source_in held statement).answer _ stmt stmt_read in
      let (query, query_known, listed) = came_of [] (query_of catalog stmt) (output_in held catalog) output selected in
      let (tables, tables_are, known) = came_of (tables_read held catalog query).names (tables_read held catalog query).answer _ output listed in
      let is : RowsOf catalog query tables ≡ output = cc in
      let text : IsListText catalog query tables bytes = subst (λ o. HasBytes o bytes) (sym is) has in
      record {
        ordered = record {
          meant = record {
            catalog = catalog;
            catalogue_is = has_catalogue held catalogue catalog catalog_read;
            source = source;
            source_held = content_held held statement statement_limit _ (held statement) source refl source_read;
            stmt = stmt;
            statement_is = statement_found law source stmt stmt_known;
            query = query;
            query_is = found resolve_refusal (resolved catalog stmt) query query_known;
            tables = tables;
            tables_are = has_tables held catalog query tables tables_are;
            rows = rows_listed text.prepared tables;
            rows_are = text.meant;
            printed = text.printed;
          };
          in_order = text.in_order;
        };
        prepared = text.prepared;
        is_prepared = text.is_prepared;
        whole = text.whole;
        listed = refl;
      }

  -- ---- `explain`

  explain_answer : (held : Held) (catalogue statement bytes : List ℕ) (output : Output) → (explain_in catalogue statement held).answer ≡ Ok output → HasBytes output bytes → IsPlanText held catalogue statement bytes
  explain_answer held catalogue statement bytes output e has =
      let (catalog, catalog_read, rest) = came_of (catalogue_in held catalogue).names (catalogue_in held catalogue).answer (plan_in held statement) output e in
      let (stmt, stmt_read, planned) = came_of (statement_in held statement).names (statement_in held statement).answer (planned_in catalog) output rest in
      let (source, source_read, stmt_known) = came_of (source_in held statement).names (source_in held statement).answer _ stmt stmt_read in
      let (query, query_known, known) = came_of [] (query_of catalog stmt) _ output planned in
      let is : PlanOf catalog query ≡ output = cc in
      let (prepared, is_prepared, printed) = subst (λ o. HasBytes o bytes) (sym is) has in
      record {
        catalog = catalog;
        catalogue_is = has_catalogue held catalogue catalog catalog_read;
        source = source;
        source_held = content_held held statement statement_limit _ (held statement) source refl source_read;
        stmt = stmt;
        statement_is = statement_found law source stmt stmt_known;
        query = query;
        query_is = found resolve_refusal (resolved catalog stmt) query query_known;
        prepared = prepared;
        is_prepared = is_prepared;
        printed = printed;
      }

-- ---- `check`

counts_after : (held : Held) (tables : List NamedTable) (before bytes : List ℕ) → (fold_in (with_count held) before tables).answer ≡ Ok bytes → (more : List ℕ) × AreCounted held tables more × (bytes ≡ before ++ more)
counts_after held [] before bytes e =
    let same : before ≡ bytes = cc in
    ([], refl, sym same ∙ sym (append-nil before))
counts_after held (table ∷ tables) before bytes e =
    let (next, next_read, rest) = came_of (with_count held before table).names (with_count held before table).answer _ bytes e in
    let (rows, rows_read, known) = came_of (table_in held table).names (table_in held table).answer _ next next_read in
    let line = count_line table.0 rows in
    let is : before ++ line ≡ next = cc in
    let (more, counted, all) = counts_after held tables next bytes rest in
    (line ++ more, (rows, more, has_rows held table rows rows_read, counted, refl), all ∙ ap (λ xs. xs ++ more) (sym is) ∙ append_assoc before line more)

check_answer : (held : Held) (catalogue bytes : List ℕ) → (check_in catalogue held).answer ≡ Ok bytes → IsCount held catalogue bytes
check_answer held catalogue bytes e =
    let (catalog, catalog_read, rest) = came_of (catalogue_in held catalogue).names (catalogue_in held catalogue).answer (counts_in held) bytes e in
    let (more, counted, all) = counts_after held catalog.tables [] bytes rest in
    record { catalog = catalog; catalogue_is = has_catalogue held catalogue catalog catalog_read; counted = subst (AreCounted held catalog.tables) (sym all) counted }

-- bytes that are told are those of the reading
bytes_read : (answer : Result (List ℕ) Refusal) (output : Output) (bytes : List ℕ) → bytes_or_refuse answer ≡ Ok output → HasBytes output bytes → answer ≡ Ok bytes
bytes_read (Err r) output bytes e has = cc
bytes_read (Ok text) output bytes e has =
    let is : Bytes text ≡ output = cc in
    ap Ok (sym (subst (λ o. HasBytes o bytes) (sym is) has))

module _ (law : (src : List ℕ) → MatchResult (cutting.answer src) (Tokens src) (Refused src)) where
  pub words_answer : (held : Held) (command : Option Command) (bytes : List ℕ) (output : Output) → (answer_in command held).answer ≡ Ok output → HasBytes output bytes → IsAnswerTo held command bytes
  words_answer held None bytes output e has = cc
  words_answer held (Some (Run catalogue statement)) bytes output e has = (run_answer law held catalogue statement bytes output e has).ordered.meant
  words_answer held (Some (Explain catalogue statement)) bytes output e has = explain_answer law held catalogue statement bytes output e has
  words_answer held (Some (Check catalogue)) bytes output e has = check_answer held catalogue bytes (bytes_read _ output bytes e has)

  pub words_ordered : (held : Held) (command : Option Command) (bytes : List ℕ) (output : Output) → (answer_in command held).answer ≡ Ok output → HasBytes output bytes → IsOrderedAnswer held command bytes
  words_ordered held None bytes output e has = cc
  words_ordered held (Some (Run catalogue statement)) bytes output e has = (run_answer law held catalogue statement bytes output e has).ordered
  words_ordered held (Some (Explain catalogue statement)) bytes output e has = tt
  words_ordered held (Some (Check catalogue)) bytes output e has = tt

  pub words_listed : (held : Held) (command : Option Command) (bytes : List ℕ) (output : Output) → (answer_in command held).answer ≡ Ok output → HasBytes output bytes → IsListedAnswer held command bytes
  words_listed held None bytes output e has = cc
  words_listed held (Some (Run catalogue statement)) bytes output e has = run_answer law held catalogue statement bytes output e has
  words_listed held (Some (Explain catalogue statement)) bytes output e has = tt
  words_listed held (Some (Check catalogue)) bytes output e has = tt

pub prints_such : (IsSuch : Held → Option Command → List ℕ → Type 0) → ((held : Held) (command : Option Command) (bytes : List ℕ) (output : Output) → (answer_in command held).answer ≡ Ok output → HasBytes output bytes → IsSuch held command bytes)
    → (words : List (List ℕ)) (contents : Option Held) (before now : Option (List ℕ)) (v : Vec ℕ Global) → PrintsTold (Ok v) contents (answer_of words) → TookMore before v.items now → PrintsSuch IsSuch contents words before now
prints_such IsSuch such words None before now v h took = tt
prints_such IsSuch such words (Some held) before now v (output, e, has) took = record { bytes = v.items; answer = such held (command_of words) v.items output e has; took = took }
