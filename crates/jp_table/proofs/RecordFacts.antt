-- How the next record of a text stands to the list of all its records.
use Rattle.std.proofs.Common.{◌≡◌, ◌≤◌, ◌<◌, ◌+◌, ◌-◌, ℕ, zero, suc, Bool, true, false, cond, List, [], ◌∷◌, ◌++◌, length, Option, Some, None, refl, ap, ◌∙◌, arith, add-one, inl}
use Rattle.std.proofs.lemmas.Bool.{false≢true}
use Rattle.csv.specs.Machine.{Read, after_end, carriage_return, line_feed, ends_at_end, ends_with, field_after, fields_after, in_field, is_byte, is_end, next_record, start_field, start_record, step}
use Rattle.csv.specs.Reading.{NextIs, ReadRecord, ReadsNext, default_config, is_bom, pending_of, reader_state, records, records_from, records_next, source_of, strip_bom, took_first}
use Rattle.csv.specs.declared.reader.Reader.{Reader}
use Rattle.std.specs.Borrow.{Bor}
use Rattle.std.specs.Prelude.{◌==◌, ◌&&◌, IsSome}
use Rattle.csv.specs.declared.parser.Config.{Config}
use Rattle.csv.specs.declared.parser.State.{State}
use Rattle.csv.specs.declared.parser.State.TheVariants as st
use Rattle.csv.specs.declared.parser.Terminator.{Terminator}
use Rattle.csv.specs.declared.parser.Terminator.TheVariants as term
use Rattle.csv.specs.declared.parser.Action.{Action}
use Rattle.csv.specs.declared.parser.Action.TheVariants as act
use Rattle.jp_table.specs.Records.{records_left}
use Rattle.jp_table.specs.Readers.{IsBetween}

-- the bytes of the slice that a reader reads
abbrev pub known : Bor (List ℕ) → Option (List ℕ)
known s = Some s.now

-- a step that ends a record leaves a state in which the end of the text ends none
abbrev LeavesBetween : State × Action → Type 0
LeavesBetween q = is_end q.1 ≡ true → ends_at_end q.0 ≡ false

either : (b : Bool) (p q : State × Action) → LeavesBetween p → LeavesBetween q → LeavesBetween (cond b p q)
either true p q h k = h
either false p q h k = k

pick : (b : Bool) (p q : State) → ends_at_end p ≡ false → ends_at_end q ≡ false → ends_at_end (cond b p q) ≡ false
pick true p q h k = h
pick false p q h k = k

after_end_between : (t : Terminator) (c : ℕ) → ends_at_end (after_end t c) ≡ false
after_end_between term.CRLF c = pick (c == carriage_return) st.AfterCr st.StartRecord refl refl
after_end_between (term.Any t) c = refl

in_field_between : (cfg : Config) (c : ℕ) → LeavesBetween (in_field cfg c)
in_field_between cfg c =
    either (c == cfg.delimiter) (st.StartField, act.EndField) (cond (ends_with cfg.terminator c) (after_end cfg.terminator c, act.EndRecord) (st.InField, act.Copy)) (λ e. absurd (false≢true e))
    (either (ends_with cfg.terminator c) (after_end cfg.terminator c, act.EndRecord) (st.InField, act.Copy) (λ e. after_end_between cfg.terminator c) (λ e. absurd (false≢true e)))

start_field_between : (cfg : Config) (c : ℕ) → LeavesBetween (start_field cfg c)
start_field_between cfg c = either (cfg.quoting && (c == cfg.quote)) (st.InQuoted, act.Skip) (in_field cfg c) (λ e. absurd (false≢true e)) (in_field_between cfg c)

start_record_between : (cfg : Config) (c : ℕ) → LeavesBetween (start_record cfg c)
start_record_between cfg c =
    either (ends_with cfg.terminator c) (st.StartRecord, act.Skip) (cond (is_byte cfg.comment c) (st.InComment, act.Skip) (start_field cfg c)) (λ e. refl)
    (either (is_byte cfg.comment c) (st.InComment, act.Skip) (start_field cfg c) (λ e. absurd (false≢true e)) (start_field_between cfg c))

step_between : (cfg : Config) (s : State) (c : ℕ) → LeavesBetween (step cfg s c)
step_between cfg st.StartRecord c = start_record_between cfg c
step_between cfg st.StartField c = start_field_between cfg c
step_between cfg st.InField c = in_field_between cfg c
step_between cfg st.InQuoted c =
    either (cfg.quoting && (c == cfg.quote)) (st.AfterQuote, act.Skip) (cond (cfg.quoting && is_byte cfg.escape c) (st.InEscape, act.Skip) (st.InQuoted, act.Copy)) (λ e. absurd (false≢true e))
    (either (cfg.quoting && is_byte cfg.escape c) (st.InEscape, act.Skip) (st.InQuoted, act.Copy) (λ e. absurd (false≢true e)) (λ e. absurd (false≢true e)))
step_between cfg st.InEscape c = λ e. absurd (false≢true e)
step_between cfg st.AfterQuote c = either (cfg.quoting && cfg.double_quote && (c == cfg.quote)) (st.InQuoted, act.Copy) (in_field cfg c) (λ e. absurd (false≢true e)) (in_field_between cfg c)
step_between cfg st.InComment c = either (c == line_feed) (st.StartRecord, act.Skip) (st.InComment, act.Skip) (λ e. refl) (λ e. absurd (false≢true e))
step_between cfg st.AfterCr c = either (c == line_feed) (st.StartRecord, act.Skip) (start_record cfg c) (λ e. refl) (start_record_between cfg c)

-- a read leaves such a state too, and fewer bytes than it began with
abbrev Leaves : ℕ → Option Read → Type 0
Leaves most None = Unit {0}
Leaves most (Some p) = (ends_at_end p.1 ≡ false) × (length p.2 ≤ most - 1)

leaves_more : (n : ℕ) (o : Option Read) → Leaves n o → Leaves (suc n) o
leaves_more n None h = tt
leaves_more n (Some p) h = (h.0, omega (arith, h.1))

next_leaves : (cfg : Config) (s : State) (fields : List (List ℕ)) (field xs : List ℕ) → Leaves (length xs) (next_record cfg s fields field xs)
unfolding next_record
next_leaves cfg s fields field [] = at_end (ends_at_end s)
  where
    at_end : (b : Bool) → Leaves 0 (cond b (Some (fields ++ (field ∷ []), st.StartRecord, [])) None)
    at_end true = (refl, omega arith)
    at_end false = tt
next_leaves cfg s fields field (c ∷ rest) =
    at_byte (is_end (step cfg s c).1) refl
    (next_leaves cfg (step cfg s c).0 (fields_after (step cfg s c).1 fields field) (field_after (step cfg s c).1 c field) rest)
  where
    at_byte : (b : Bool) → is_end (step cfg s c).1 ≡ b
        → Leaves (length rest) (next_record cfg (step cfg s c).0 (fields_after (step cfg s c).1 fields field) (field_after (step cfg s c).1 c field) rest)
        → Leaves (suc (length rest)) (cond b (Some (fields_after (step cfg s c).1 fields field, (step cfg s c).0, rest)) (next_record cfg (step cfg s c).0 (fields_after (step cfg s c).1 fields field) (field_after (step cfg s c).1 c field) rest))
    at_byte true e h = (step_between cfg s c e, omega arith)
    at_byte false e h = leaves_more (length rest) _ h

-- a record takes at least one byte, where the end of the text ends none
next_falls : (cfg : Config) (s : State) (xs : List ℕ) (p : Read) → ends_at_end s ≡ false → next_record cfg s [] [] xs ≡ Some p
    → (ends_at_end p.1 ≡ false) × (length p.2 < length xs)
unfolding next_record
next_falls cfg s [] p w e = let none = rw w at e in cc
next_falls cfg s (c ∷ rest) p w e =
    let h = rw e at (next_leaves cfg s [] [] (c ∷ rest)) in
    (h.0, omega (arith, h.1))

-- with more turns than bytes, the count of turns changes nothing
same_turns : (cfg : Config) (k m : ℕ) (s : State) (xs : List ℕ) → ends_at_end s ≡ false → length xs < k → length xs < m
    → records_from cfg k s xs ≡ records_from cfg m s xs
unfolding records_from
same_turns cfg zero m s xs w h g = absurd (omega arith)
same_turns cfg (suc k) zero s xs w h g = absurd (omega arith)
same_turns cfg (suc k) (suc m) s xs w h g =
    at_next (next_record cfg s [] [] xs) refl (λ p u a b. same_turns cfg k m p.1 p.2 u a b)
  where
    at_next : (o : Option Read) → next_record cfg s [] [] xs ≡ o
        → ((p : Read) → ends_at_end p.1 ≡ false → length p.2 < k → length p.2 < m → records_from cfg k p.1 p.2 ≡ records_from cfg m p.1 p.2)
        → records_next (records_from cfg k) o ≡ records_next (records_from cfg m) o
    at_next None e more = refl
    at_next (Some p) e more =
        let f = next_falls cfg s xs p w e in
        ap (λ (rs : List (List (List ℕ))). p.0 ∷ rs) (more p f.0 (omega (arith, f.1)) (omega (arith, f.1)))

-- no more records than bytes
few_records : (cfg : Config) (k : ℕ) (s : State) (xs : List ℕ) → ends_at_end s ≡ false → length (records_from cfg k s xs) ≤ length xs
unfolding records_from
few_records cfg zero s xs w = omega arith
few_records cfg (suc k) s xs w = at_next (next_record cfg s [] [] xs) refl (λ p u. few_records cfg k p.1 p.2 u)
  where
    at_next : (o : Option Read) → next_record cfg s [] [] xs ≡ o
        → ((p : Read) → ends_at_end p.1 ≡ false → length (records_from cfg k p.1 p.2) ≤ length p.2)
        → length (records_next (records_from cfg k) o) ≤ length xs
    at_next None e more = omega arith
    at_next (Some p) e more =
        let f = next_falls cfg s xs p w e in
        omega (arith, f.1, more p f.0)

-- the records that are left are no more than the bytes
pub left_few : (s : State) (xs : List ℕ) → ends_at_end s ≡ false → length (records_left s (Some xs)) ≤ length xs
left_few s xs w = few_records default_config (length xs + 1) s xs w

-- where there is no next record, none is left
pub left_none : (s : State) (xs : List ℕ) → next_record default_config s [] [] xs ≡ None → records_left s (Some xs) ≡ []
unfolding records_from
left_none s xs e = rw (add-one, e) refl

-- the next record, and then those that are left after it
pub left_next : (s : State) (xs : List ℕ) (p : Read) → ends_at_end s ≡ false → next_record default_config s [] [] xs ≡ Some p
    → (records_left s (Some xs) ≡ p.0 ∷ records_left p.1 (Some p.2)) × (ends_at_end p.1 ≡ false)
unfolding records_from
left_next s xs p w e =
    let f = next_falls default_config s xs p w e in
    (rw (add-one, e) (ap (λ (rs : List (List (List ℕ))). p.0 ∷ rs) (same_turns default_config (length xs) (length p.2 + 1) p.1 p.2 f.0 f.1 (omega arith))), f.0)

-- a text without its byte order mark is no longer than with it
strip_shorter : (xs : List ℕ) → length (strip_bom xs) ≤ length xs
unfolding strip_bom
strip_shorter [] = omega arith
strip_shorter (a ∷ []) = omega arith
strip_shorter (a ∷ b ∷ []) = omega arith
strip_shorter (a ∷ b ∷ c ∷ rest) = at_mark (is_bom a b c)
  where
    at_mark : (m : Bool) → length (cond m rest (a ∷ b ∷ c ∷ rest)) ≤ length (a ∷ b ∷ c ∷ rest)
    at_mark true = omega arith
    at_mark false = omega arith

-- a file has no more records than bytes
pub file_few : (xs : List ℕ) → length (records default_config (strip_bom xs)) ≤ length xs
file_few xs = omega (arith, left_few st.StartRecord (strip_bom xs) refl, strip_shorter xs)

-- what a read says of the records that were left, from what it says of the bytes
abbrev pub Found : State → Option (List ℕ) → State → Option (List ℕ) → List (List ℕ) → Type 0
Found s a s2 b fields = (records_left s a ≡ fields ∷ records_left s2 b) × IsSome b × (ends_at_end s2 ≡ false)

pub found_left : (s s2 : State) (a b : Option (List ℕ)) (fields : List (List ℕ)) → IsSome a → ends_at_end s ≡ false
    → ReadsNext default_config s a b true fields s2 → Found s a s2 b fields
found_left s s2 None b fields h w r = absurd (false≢true h)
found_left s s2 (Some xs) None fields h w r = absurd r
found_left s s2 (Some xs) (Some ys) fields h w r = at_next (next_record default_config s [] [] xs) refl r
  where
    at_next : (o : Option Read) → next_record default_config s [] [] xs ≡ o → NextIs o true fields s2 ys → Found s (Some xs) s2 (Some ys) fields
    at_next None e n = cc n
    at_next (Some p) e n =
        let l = left_next s xs p w e in
        (rw (n.1, n.2, n.3) l.0, refl, rw n.2 l.1)

pub none_left : (s s2 : State) (a b : Option (List ℕ)) (fields : List (List ℕ))
    → ReadsNext default_config s a b false fields s2 → records_left s a ≡ []
none_left s s2 None b fields r = refl
none_left s s2 (Some xs) None fields r = absurd r
none_left s s2 (Some xs) (Some ys) fields r = at_next (next_record default_config s [] [] xs) refl r
  where
    at_next : (o : Option Read) → next_record default_config s [] [] xs ≡ o → NextIs o false fields s2 ys → records_left s (Some xs) ≡ []
    at_next None e n = left_none s xs e
    at_next (Some p) e n = cc n.0

-- the bytes that a reader has left after its first read are those of its next read
source_kept : (r : Reader (Bor (List ℕ))) → r.bom_checked ≡ true → source_of known r ≡ pending_of (known r.rdr) r
source_kept r e = rw e refl

pub read_found : (old new : Reader (Bor (List ℕ))) (fields : List (List ℕ)) → IsBetween old → took_first new ≡ true
    → ReadRecord known old new true fields
    → (records_left (reader_state old) (source_of known old) ≡ fields ∷ records_left (reader_state new) (source_of known new)) × IsBetween new
read_found old new fields b first r =
    let f = found_left old.state new.state (source_of known old) (pending_of (known new.rdr) new) fields b.known b.between (rw b.config at r.0) in
    let e = source_kept new r.1 in (
      rw e f.0,
      record {
        config = r.2 ∙ b.config;
        trim = r.3 ∙ b.trim;
        ready = inl first;
        known = rw e f.1;
        between = f.2;
      },
    )

pub read_none : (old new : Reader (Bor (List ℕ))) (fields : List (List ℕ)) → IsBetween old
    → ReadRecord known old new false fields
    → records_left (reader_state old) (source_of known old) ≡ []
read_none old new fields b r =
    none_left old.state new.state (source_of known old) (pending_of (known new.rdr) new) fields (rw b.config at r.0)
