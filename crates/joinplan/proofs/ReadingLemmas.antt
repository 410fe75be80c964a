-- Readings in a row, and what a read of one file says of them.
use Rattle.std.proofs.Common.{◌≡◌, ◌≢◌, ℕ, ◌+◌, ◌≤◌, suc, inl, inr, take, drop, List, [], ◌∷◌, ◌++◌, length, Option, Some, None, Result, Ok, Err, Vec, Global, refl, sym, ◌∙◌, ap, subst, arith, cond}
use Rattle.std.specs.Prelude.{Contains, IfErr, slice_get}
use Rattle.std.proofs.lemmas.Bool.{le-leb, lt-leb}
use Rattle.std.proofs.lemmas.List.{take_more, take_all, take-append-drop}
use Rattle.std.proofs.Math.Seq.{drop-cons}
use Rattle.std.proofs.lemmas.Option.{get_or_from_slice_get, slice_get_within}
use Rattle.std.proofs.lemmas.List.Elements.{Contains-append_left, Contains-append_right}
use Rattle.jp_io.specs.Files.{Rose, WholeIfThere, ReadsWhole}
use Rattle.jp_io.specs.declared.reading.FileError.TheVariants as file_error
use Rattle.jp_table.specs.declared.error.TableError.{TableError}
use Rattle.jp_table.specs.declared.error.TableError.TheVariants as table_error
use Rattle.joinplan.specs.declared.refusal.Refusal.{Refusal}
use Rattle.joinplan.specs.declared.refusal.Refusal.TheVariants as refusal
use Rattle.joinplan.specs.Faults.{Counts, IsExplained}
use Rattle.joinplan.specs.Answers.{Output, Bytes, HasBytes, Prints, PrintsTold, as_output, bytes_or_refuse}
use Rattle.joinplan.specs.Readings.{Held, Reading, known, after, and_then, content_of, file_of, fold_in, Agrees, AgreesRefused, AgreesTold}
use Rattle.joinplan.specs.Refusals.{IsNamed}

-- ---- one reading after the other

-- what refuses the rest refuses the whole
widened : {A : Type 0} (names : List (List ℕ)) (rest : Reading A) (r : Refusal) → AgreesRefused r rest → AgreesRefused r (record { names = names ++ rest.names; answer = rest.answer })
widened names rest refusal.Memory h = tt
widened names rest (refusal.ReadFault name) h = Contains-append_right names rest.names name h
widened names rest refusal.Usage h = h
widened names rest (refusal.Catalogue error) h = h
widened names rest (refusal.Data table error) h = h
widened names rest (refusal.Statement what at) h = h
widened names rest (refusal.TooDeep at) h = h
widened names rest (refusal.TooManyTables count) h = h
widened names rest (refusal.FileTooLarge name) h = h
widened names rest refusal.StatementTooLarge h = h
widened names rest refusal.WriteFault h = h

agrees_widened : {X A : Type 0} (view : X → A) (names : List (List ℕ)) (rest : Reading A) (result : Result X Refusal) → Agrees view result rest → Agrees view result (record { names = names ++ rest.names; answer = rest.answer })
agrees_widened view names rest (Ok value) h = h
agrees_widened view names rest (Err r) h = widened names rest r h

agrees_then : {X A B : Type 0} (view : X → B) (first : Reading A) (next : A → Reading B) (value : A) (result : Result X Refusal) → first.answer ≡ Ok value → Agrees view result (next value) → Agrees view result (and_then first next)
agrees_then {X} {A} {B} view first next value result e h =
    let P : Result A Refusal → Type 0 = λ answer. Agrees view result (after first.names answer next) in
    subst P (sym e) (agrees_widened view first.names (next value) result h)

-- the names of the first part are among those of the whole
first_names : {A B : Type 0} (names : List (List ℕ)) (answer : Result A Refusal) (next : A → Reading B) (name : List ℕ) → Contains names name → Contains (after names answer next).names name
first_names names (Ok value) next name h = Contains-append_left names (next value).names name h
first_names names (Err r) next name h = h

stopped_at : {A B : Type 0} (first : Reading A) (next : A → Reading B) (r : Refusal) → first.answer ≡ Err r → (and_then first next).answer ≡ Err r
stopped_at {A} {B} first next r e =
    let P : Result A Refusal → Type 0 = λ answer. (after first.names answer next).answer ≡ Err r in
    subst P (sym e) refl

-- a refusal of the first part is one of the whole
agrees_stop : {A B : Type 0} (first : Reading A) (next : A → Reading B) (r : Refusal) → AgreesRefused r first → AgreesRefused r (and_then first next)
agrees_stop first next refusal.Memory h = tt
agrees_stop first next (refusal.ReadFault name) h = first_names first.names first.answer next name h
agrees_stop first next refusal.Usage h = stopped_at first next refusal.Usage h
agrees_stop first next (refusal.Catalogue error) h = stopped_at first next (refusal.Catalogue error) h
agrees_stop first next (refusal.Data table error) h = stopped_at first next (refusal.Data table error) h
agrees_stop first next (refusal.Statement what at) h = stopped_at first next (refusal.Statement what at) h
agrees_stop first next (refusal.TooDeep at) h = stopped_at first next (refusal.TooDeep at) h
agrees_stop first next (refusal.TooManyTables count) h = stopped_at first next (refusal.TooManyTables count) h
agrees_stop first next (refusal.FileTooLarge name) h = stopped_at first next (refusal.FileTooLarge name) h
agrees_stop first next refusal.StatementTooLarge h = stopped_at first next refusal.StatementTooLarge h
agrees_stop first next refusal.WriteFault h = stopped_at first next refusal.WriteFault h

pub told_then : {X A B : Type 0} (view : X → B) (contents : Option Held) (first : Held → Reading A) (next : Held → A → Reading B) (value : A) (result : Result X Refusal)
    → AgreesTold {X = A} (λ a. a) (Ok value) contents first → AgreesTold view result contents (λ held. next held value) → AgreesTold view result contents (λ held. and_then (first held) (next held))
told_then view None first next value result h k = tt
told_then view (Some held) first next value result h k = agrees_then view (first held) (next held) value result h k

pub told_stop : {X Y A B : Type 0} (view : X → B) (view' : Y → A) (contents : Option Held) (first : Held → Reading A) (next : Held → A → Reading B) (r : Refusal)
    → AgreesTold {X = Y} view' (Err r) contents first → AgreesTold {X = X} view (Err r) contents (λ held. and_then (first held) (next held))
told_stop view view' None first next r h = tt
told_stop view view' (Some held) first next r h = agrees_stop (first held) (next held) r h

-- ---- one file

content_read : (name : List ℕ) (limit : ℕ) (too_large : Refusal) (there : Option (List ℕ)) (v : Vec ℕ Global) → WholeIfThere there limit (Ok v) → content_of name limit too_large there ≡ Ok v.items
content_read name limit too_large None v h = absurd h
content_read name limit too_large (Some bytes) v h = ap (λ b. cond b (Ok bytes) (Err too_large)) (le-leb (length bytes) limit h.1) ∙ ap Ok (sym h.0)

content_large : (name : List ℕ) (limit : ℕ) (too_large : Refusal) (there : Option (List ℕ)) → WholeIfThere there limit (Err file_error.TooLarge) → content_of name limit too_large there ≡ Err too_large
content_large name limit too_large None h = absurd h
content_large name limit too_large (Some bytes) h = ap (λ b. cond b (Ok bytes) (Err too_large)) (lt-leb (length bytes) limit h)

pub told_read : (contents : Option Held) (name : List ℕ) (limit : ℕ) (too_large : Refusal) (v : Vec ℕ Global) → ReadsWhole contents name limit (Ok v) → AgreesTold (λ (w : Vec ℕ Global). w.items) (Ok v) contents (λ held. file_of held name limit too_large)
told_read None name limit too_large v h = tt
told_read (Some held) name limit too_large v h = content_read name limit too_large (held name) v h

-- the refusal of a file that is too large
pub told_large : (contents : Option Held) (name : List ℕ) (limit : ℕ) (r : Refusal) → ReadsWhole contents name limit (Err file_error.TooLarge) → IsNamed refusal.FileTooLarge name r →
    AgreesTold (λ (w : Vec ℕ Global). w.items) (Err r) contents (λ held. file_of held name limit (refusal.FileTooLarge name))
told_large None name limit r h named = tt
told_large (Some held) name limit r h (inl memory) = subst (λ x. AgreesRefused x (file_of held name limit (refusal.FileTooLarge name))) (sym memory) tt
told_large (Some held) name limit r h (inr is) = subst (λ x. AgreesRefused x (file_of held name limit (refusal.FileTooLarge name))) (sym is) (content_large name limit (refusal.FileTooLarge name) (held name) h)

pub told_statement : (contents : Option Held) (name : List ℕ) (limit : ℕ) → ReadsWhole contents name limit (Err file_error.TooLarge) →
    AgreesTold (λ (w : Vec ℕ Global). w.items) (Err refusal.StatementTooLarge) contents (λ held. file_of held name limit refusal.StatementTooLarge)
told_statement None name limit h = tt
told_statement (Some held) name limit h = content_large name limit refusal.StatementTooLarge (held name) h

pub told_fault : (contents : Option Held) (name : List ℕ) (limit : ℕ) (too_large r : Refusal) → IsNamed refusal.ReadFault name r → AgreesTold (λ (w : Vec ℕ Global). w.items) (Err r) contents (λ held. file_of held name limit too_large)
told_fault None name limit too_large r named = tt
told_fault (Some held) name limit too_large r (inl memory) = subst (λ x. AgreesRefused x (file_of held name limit too_large)) (sym memory) tt
told_fault (Some held) name limit too_large r (inr is) = subst (λ x. AgreesRefused x (file_of held name limit too_large)) (sym is) (Contains-here name)
  where
    Contains-here : (name : List ℕ) → Contains (name ∷ []) name
    Contains-here name = (0, omega arith, refl)

-- ---- refusals with their faults

pub explained_more : (May May' : List ℕ → Type 0) (before between now : Counts) → ((name : List ℕ) → May name → May' name) → ((name : List ℕ) → before name ≤ between name) → (r : Refusal) → IsExplained May between now r → IsExplained May' before now r
explained_more May May' before between now more kept refusal.Usage h = h
explained_more May May' before between now more kept refusal.WriteFault h = h
explained_more May May' before between now more kept (refusal.ReadFault name) h = (more name h.0, omega (arith, h.1, kept name))
explained_more May May' before between now more kept refusal.Memory h = tt
explained_more May May' before between now more kept (refusal.Catalogue error) h = h
explained_more May May' before between now more kept (refusal.Data table error) h = h
explained_more May May' before between now more kept (refusal.Statement what at) h = tt
explained_more May May' before between now more kept (refusal.TooDeep at) h = tt
explained_more May May' before between now more kept (refusal.TooManyTables count) h = tt
explained_more May May' before between now more kept (refusal.FileTooLarge name) h = tt
explained_more May May' before between now more kept refusal.StatementTooLarge h = tt

pub explained_fault : (name : List ℕ) (before now : Counts) (r : Refusal) → IsNamed refusal.ReadFault name r → Rose (before name) (now name) → IsExplained (λ n. n ≡ name) before now r
explained_fault name before now r (inl memory) rose = subst (IsExplained (λ n. n ≡ name) before now) (sym memory) tt
explained_fault name before now r (inr is) rose = subst (IsExplained (λ n. n ≡ name) before now) (sym is) (refl, rose)

pub explained_large : (name : List ℕ) (before now : Counts) (r : Refusal) → IsNamed refusal.FileTooLarge name r → IsExplained (λ n. n ≡ name) before now r
explained_large name before now r (inl memory) = subst (IsExplained (λ n. n ≡ name) before now) (sym memory) tt
explained_large name before now r (inr is) = subst (IsExplained (λ n. n ≡ name) before now) (sym is) tt

pub explained_data : (table name : List ℕ) (error : TableError) (before now : Counts) (r : Refusal) → error ≢ table_error.Memory → IsNamed (λ n. refusal.Data n error) table r → IsExplained (λ n. n ≡ name) before now r
explained_data table name error before now r other (inl memory) = subst (IsExplained (λ n. n ≡ name) before now) (sym memory) tt
explained_data table name error before now r other (inr is) = subst (IsExplained (λ n. n ≡ name) before now) (sym is) other

-- an answer that is known without a file
pub told_known : {A : Type 0} (contents : Option Held) (answer : Result A Refusal) (value : A) → answer ≡ Ok value → AgreesTold {X = A} (λ a. a) (Ok value) contents (λ held. known answer)
told_known None answer value e = tt
told_known (Some held) answer value e = e

-- the same for what a call answered
pub refusal_explained : {X : Type 0} (May May' : List ℕ → Type 0) (before between now : Counts) → ((name : List ℕ) → May name → May' name) → ((name : List ℕ) → before name ≤ between name) → (result : Result X Refusal) →
    IfErr result (IsExplained May between now) → IfErr result (IsExplained May' before now)
refusal_explained May May' before between now more kept (Ok value) h = tt
refusal_explained May May' before between now more kept (Err r) h = explained_more May May' before between now more kept r h

-- ---- one reading for each of a list

same_answer : {A : Type 0} (names : List (List ℕ)) (answer : Result A Refusal) (f g : A → Reading A) (a : A) (whole : Result A Refusal) → ((n : A) → (f n).answer ≡ Ok a → (g n).answer ≡ whole) → (after names answer f).answer ≡ Ok a → (after names answer g).answer ≡ whole
same_answer names (Ok n) f g a whole h e = h n e
same_answer names (Err r) f g a whole h e = cc

-- what the first of a list give, and then the others
fold_then : {A X : Type 0} (step : A → X → Reading A) (xs ys : List X) (value a : A) → (fold_in step value xs).answer ≡ Ok a → (fold_in step value (xs ++ ys)).answer ≡ (fold_in step a ys).answer
fold_then {A} step [] ys value a e =
    let same : value ≡ a = cc in
    let P : A → Type 0 = λ x. (fold_in step value ys).answer ≡ (fold_in step x ys).answer in
    subst P same refl
fold_then step (x ∷ xs) ys value a e =
    same_answer (step value x).names (step value x).answer (λ n. fold_in step n xs) (λ n. fold_in step n (xs ++ ys)) a (fold_in step a ys).answer (λ n h. fold_then step xs ys n a h) e

fold_one : {A X : Type 0} (step : A → X → Reading A) (x : X) (a b : A) → (step a x).answer ≡ Ok b → (fold_in step a (x ∷ [])).answer ≡ Ok b
fold_one {A} step x a b e =
    let P : Result A Refusal → Type 0 = λ answer. (after (step a x).names answer (λ n. fold_in step n [])).answer ≡ Ok b in
    subst P (sym e) refl

later_refused : {A : Type 0} (names : List (List ℕ)) (answer : Result A Refusal) (f g : A → Reading A) (a : A) (r : Refusal) → ((n : A) → (f n).answer ≡ Ok a → AgreesRefused r (g n)) → (after names answer f).answer ≡ Ok a → AgreesRefused r (after names answer g)
later_refused names (Ok n) f g a r h e = widened names (g n) r (h n e)
later_refused names (Err other) f g a r h e = cc

fold_refused : {A X : Type 0} (step : A → X → Reading A) (xs ys : List X) (value a : A) (r : Refusal) → (fold_in step value xs).answer ≡ Ok a → AgreesRefused r (fold_in step a ys) → AgreesRefused r (fold_in step value (xs ++ ys))
fold_refused {A} step [] ys value a r e h =
    let same : value ≡ a = cc in
    let P : A → Type 0 = λ x. AgreesRefused r (fold_in step x ys) in
    subst P (sym same) h
fold_refused step (x ∷ xs) ys value a r e h =
    later_refused (step value x).names (step value x).answer (λ n. fold_in step n xs) (λ n. fold_in step n (xs ++ ys)) a r (λ n k. fold_refused step xs ys n a r k h) e

-- what a view shows is what is known
pub told_shown : {X A : Type 0} (view : X → A) (contents : Option Held) (reading : Held → Reading A) (x : X) → AgreesTold view (Ok x) contents reading → AgreesTold {X = A} (λ a. a) (Ok (view x)) contents reading
told_shown view None reading x h = tt
told_shown view (Some held) reading x h = h

pub told_viewed : {X A : Type 0} (view : X → A) (contents : Option Held) (reading : Held → Reading A) (x : X) → AgreesTold {X = A} (λ a. a) (Ok (view x)) contents reading → AgreesTold view (Ok x) contents reading
told_viewed view None reading x h = tt
told_viewed view (Some held) reading x h = h

module _ {A X : Type 0} (contents : Option Held) (step : Held → A → X → Reading A) (value : A) (xs : List X) where
  -- what the first of the list give
  abbrev pub GivenBy : ℕ → A → Type 0
  GivenBy i a = AgreesTold {X = A} (λ b. b) (Ok a) contents (λ held. fold_in (step held) value (take i xs))

  pub none_given : GivenBy 0 value
  none_given = at contents
    where
      at : (told : Option Held) → AgreesTold {X = A} (λ b. b) (Ok value) told (λ held. fold_in (step held) value (take 0 xs))
      at None = tt
      at (Some held) = refl

  pub one_more_given : (i : ℕ) (x : X) (a b : A) → slice_get xs i ≡ Some x → GivenBy i a → AgreesTold {X = A} (λ c. c) (Ok b) contents (λ held. step held a x) → GivenBy (i + 1) b
  one_more_given i x a b found = at contents
    where
      at : (told : Option Held) → AgreesTold {X = A} (λ c. c) (Ok a) told (λ held. fold_in (step held) value (take i xs)) → AgreesTold {X = A} (λ c. c) (Ok b) told (λ held. step held a x)
          → AgreesTold {X = A} (λ c. c) (Ok b) told (λ held. fold_in (step held) value (take (i + 1) xs))
      at None h k = tt
      at (Some held) h k =
          let more : take (i + 1) xs ≡ take i xs ++ x ∷ [] = take_more xs i x (slice_get_within xs i x found) ∙ ap (λ y. take i xs ++ y ∷ []) (get_or_from_slice_get xs i x x found) in
          ap (λ ys. (fold_in (step held) value ys).answer) more ∙ fold_then (step held) (take i xs) (x ∷ []) value a h ∙ fold_one (step held) x a b k

  pub all_given : (i : ℕ) (a : A) → length xs ≤ i → GivenBy i a → AgreesTold {X = A} (λ c. c) (Ok a) contents (λ held. fold_in (step held) value xs)
  all_given i a all h = subst (λ ys. AgreesTold {X = A} (λ c. c) (Ok a) contents (λ held. fold_in (step held) value ys)) (take_all i xs all) h

  -- a refusal behind them is one of the whole list
  pub given_until : {Y Z : Type 0} (view : Y → A) (other : Z → A) (i : ℕ) (x : X) (a : A) (r : Refusal) → slice_get xs i ≡ Some x → GivenBy i a → AgreesTold {X = Z} other (Err r) contents (λ held. step held a x) → AgreesTold {X = Y} view (Err r) contents (λ held. fold_in (step held) value xs)
  given_until {Y} {Z} view other i x a r found = at contents
    where
      at : (told : Option Held) → AgreesTold {X = A} (λ c. c) (Ok a) told (λ held. fold_in (step held) value (take i xs)) → AgreesTold {X = Z} other (Err r) told (λ held. step held a x)
          → AgreesTold {X = Y} view (Err r) told (λ held. fold_in (step held) value xs)
      at None h k = tt
      at (Some held) h k =
          let rest = drop (suc i) xs in
          let parts : take i xs ++ x ∷ rest ≡ xs = ap (λ ys. take i xs ++ ys) (ap (λ y. y ∷ rest) (sym (get_or_from_slice_get xs i x x found)) ∙ sym (drop-cons xs i x (slice_get_within xs i x found))) ∙ take-append-drop i xs in
          let P : List X → Type 0 = λ ys. AgreesRefused r (fold_in (step held) value ys) in
          subst P parts (fold_refused (step held) (take i xs) (x ∷ rest) value a r h (agrees_stop (step held a x) (λ n. fold_in (step held) n rest) r k))

-- what a `?` hands on
pub told_on : {Y Z A : Type 0} (view : Y → A) (other : Z → A) (contents : Option Held) (reading : Held → Reading A) (result : Result Y Refusal) (r : Refusal) → result ≡ Err r → AgreesTold {X = Z} other (Err r) contents reading → AgreesTold {X = Y} view result contents reading
told_on {Y} view other contents reading result r e h = subst (λ x. AgreesTold {X = Y} view x contents reading) (sym e) (at contents h)
  where
    at : (told : Option Held) → AgreesTold other (Err r) told reading → AgreesTold {X = Y} view (Err r) told reading
    at None h = tt
    at (Some held) h = h

pub explained_on : {Y : Type 0} (May May' : List ℕ → Type 0) (before between now : Counts) (result : Result Y Refusal) (r : Refusal) → result ≡ Err r → ((name : List ℕ) → May name → May' name) → ((name : List ℕ) → before name ≤ between name) → IsExplained May between now r → IfErr result (IsExplained May' before now)
explained_on May May' before between now result r e more kept h = subst (λ x. IfErr x (IsExplained May' before now)) (sym e) (explained_more May May' before between now more kept r h)

-- ---- what is printed

-- bytes of a reading are those of its output
bytes_as_output : (answer : Result (List ℕ) Refusal) (v : Vec ℕ Global) → answer ≡ Ok v.items → (output : Output) × (bytes_or_refuse answer ≡ Ok output) × HasBytes output v.items
bytes_as_output answer v e = (Bytes v.items, ap bytes_or_refuse e, refl)

refused_as_output : (reading : Reading (List ℕ)) (r : Refusal) → AgreesRefused r reading → AgreesRefused r (as_output reading)
refused_as_output reading refusal.Memory h = tt
refused_as_output reading (refusal.ReadFault name) h = h
refused_as_output reading refusal.Usage h = ap bytes_or_refuse h
refused_as_output reading (refusal.Catalogue error) h = ap bytes_or_refuse h
refused_as_output reading (refusal.Data table error) h = ap bytes_or_refuse h
refused_as_output reading (refusal.Statement what at) h = ap bytes_or_refuse h
refused_as_output reading (refusal.TooDeep at) h = ap bytes_or_refuse h
refused_as_output reading (refusal.TooManyTables count) h = ap bytes_or_refuse h
refused_as_output reading (refusal.FileTooLarge name) h = ap bytes_or_refuse h
refused_as_output reading refusal.StatementTooLarge h = ap bytes_or_refuse h
refused_as_output reading refusal.WriteFault h = ap bytes_or_refuse h

pub told_as_output : (contents : Option Held) (reading : Held → Reading (List ℕ)) (result : Result (Vec ℕ Global) Refusal) → AgreesTold (λ (v : Vec ℕ Global). v.items) result contents reading → PrintsTold result contents (λ held. as_output (reading held))
told_as_output None reading result h = tt
told_as_output (Some held) reading (Ok v) h = bytes_as_output (reading held).answer v h
told_as_output (Some held) reading (Err r) h = refused_as_output (reading held) r h

prints_widened : (names : List (List ℕ)) (rest : Reading Output) (result : Result (Vec ℕ Global) Refusal) → Prints result rest → Prints result (record { names = names ++ rest.names; answer = rest.answer })
prints_widened names rest (Ok v) h = h
prints_widened names rest (Err r) h = widened names rest r h

prints_then : {A : Type 0} (first : Reading A) (next : A → Reading Output) (value : A) (result : Result (Vec ℕ Global) Refusal) → first.answer ≡ Ok value → Prints result (next value) → Prints result (and_then first next)
prints_then {A} first next value result e h =
    let P : Result A Refusal → Type 0 = λ answer. Prints result (after first.names answer next) in
    subst P (sym e) (prints_widened first.names (next value) result h)

pub printed_then : {A : Type 0} (contents : Option Held) (first : Held → Reading A) (next : Held → A → Reading Output) (value : A) (result : Result (Vec ℕ Global) Refusal)
    → AgreesTold {X = A} (λ a. a) (Ok value) contents first → PrintsTold result contents (λ held. next held value) → PrintsTold result contents (λ held. and_then (first held) (next held))
printed_then None first next value result h k = tt
printed_then (Some held) first next value result h k = prints_then (first held) (next held) value result h k

pub printed_stop : {Y A : Type 0} (view : Y → A) (contents : Option Held) (first : Held → Reading A) (next : Held → A → Reading Output) (r : Refusal)
    → AgreesTold {X = Y} view (Err r) contents first → PrintsTold (Err r) contents (λ held. and_then (first held) (next held))
printed_stop view None first next r h = tt
printed_stop view (Some held) first next r h = agrees_stop (first held) (next held) r h

pub printed_memory : (contents : Option Held) (reading : Held → Reading Output) → PrintsTold (Err refusal.Memory) contents reading
printed_memory None reading = tt
printed_memory (Some held) reading = tt

pub printed_output : (contents : Option Held) (output : Output) (v : Vec ℕ Global) → HasBytes output v.items → PrintsTold (Ok v) contents (λ held. known (Ok output))
printed_output None output v h = tt
printed_output (Some held) output v h = (output, refl, h)
