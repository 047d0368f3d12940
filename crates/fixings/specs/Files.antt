-- Fixing files, read field by field from the front.
-- Assumes nothing.
use Rattle.std.specs.Prelude.{ℕ, zero, suc, ◌+◌, ◌-◌, ◌*◌, Bool, true, cond, ◌&&◌, List, [], ◌∷◌, length, drop, ℤ, pos, negsuc, Some, None, Ok, Err, Option, Result, ◌==◌, int_le, nat_le, nat_lt, slice_index}
use Rattle.std.specs.Int.{w32}
use Rattle.std.proofs.Common.{to_z}
use Rattle.std.specs.Option.{option_map}
use Rattle.quantity.specs.Benchmarks.{code_of, is_on_step}
use Rattle.quantity.specs.Refusals.{Told, plain, at_field, told}
use Rattle.quantity.specs.declared.benchmark.BenchmarkCode.{BenchmarkCode}
use Rattle.quantity.specs.declared.refusal.Refusal.{Refusal}
use Rattle.fixings.specs.declared.fixing.Fixing.{Fixing}
use Rattle.fixings.specs.Fields.{Split, split}

-- a fixing as a file has it
pub record Entry : Type 0 where
  pub day : ℕ
  pub ticks : ℤ

-- the big-endian number in four bytes from the place i on
abbrev pub word_at : List ℕ → ℕ → ℕ
word_at bs i = slice_index bs i * 16777216 + slice_index bs (i + 1) * 65536 + slice_index bs (i + 2) * 256 + slice_index bs (i + 3)

-- whether a rate is from -250,000 to 250,000 and on the step
unfoldable pub is_rate : BenchmarkCode → ℤ → Bool
is_rate b r = int_le (negsuc 249999) r && int_le r (pos 250000) && is_on_step b r

-- a fixing, judged for its values, then for its number n, then against the least day allowed
unfoldable pub judge : BenchmarkCode → ℕ → ℕ → Entry → Result Entry Told
judge b n least e =
    cond (nat_le e.day 73048 && is_rate b e.ticks) (cond (nat_lt n 4000) (cond (nat_le least e.day) (Ok e) (Err (plain 4))) (Err (plain 3))) (Err (plain 2))

abbrev pub some : Result Entry Told → Result (Option Entry) Told
some (Ok e) = Ok (Some e)
some (Err x) = Err x

-- the contents of a field of tag 2: a date and a rate
unfoldable pub fixing_in : BenchmarkCode → ℕ → ℕ → ℕ → List ℕ → Result (Option Entry) Told
fixing_in b at n least body =
    cond (length body == 8) (some (judge b n least (record { day = word_at body 0; ticks = to_z w32 (word_at body 4) }))) (Err (at_field at))

-- the contents of a field of tag 9: the number of fixings
unfoldable pub end_in : ℕ → ℕ → List ℕ → Result (Option Entry) Told
end_in at n body = cond (length body == 2 && slice_index body 0 * 256 + slice_index body 1 == n) (Ok None) (Err (at_field at))

-- the field at an offset, after n fixings: one more fixing, or none at the end of the file
unfoldable pub verdict : BenchmarkCode → ℕ → ℕ → ℕ → Option Split → Result (Option Entry) Told
verdict b at n least None = Err (at_field at)
verdict b at n least (Some f) =
    cond (f.label == 2) (fixing_in b at n least f.body) (cond (f.label == 9) (end_in at n f.body) (Err (at_field at)))

-- the fixings of a file from an offset on, and the offset where it ends
pub record Tail : Type 0 where
  pub entries : List Entry
  pub stop : ℕ

abbrev pub prepend : Entry → Result Tail Told → Result Tail Told
prepend e (Ok t) = Ok (record { entries = e ∷ t.entries; stop = t.stop })
prepend e (Err x) = Err x

abbrev pub on_verdict : Result (Option Entry) Told → ℕ → (Entry → Result Tail Told) → Result Tail Told
on_verdict (Err x) end next = Err x
on_verdict (Ok None) end next = Ok (record { entries = []; stop = end })
on_verdict (Ok (Some e)) end next = prepend e (next e)

-- the fields from an offset on, after n fixings, with at most `left` fields to come: a fixing takes 11 bytes, and the end 5
unfoldable pub fields_from : ℕ → BenchmarkCode → ℕ → ℕ → ℕ → List ℕ → Result Tail Told
fields_from zero b at n least s = Err (plain 3)
fields_from (suc left) b at n least s =
    on_verdict (verdict b at n least (split s)) (at + 5) (λ e. fields_from left b (at + 11) (n + 1) (e.day + 1) (drop 11 s))

-- where a reader of these fields stands: the benchmark, the offset, the fixings before it, the least day allowed, and the bytes from there on
pub record Rest : Type 0 where
  pub benchmark : BenchmarkCode
  pub offset : ℕ
  pub count : ℕ
  pub least : ℕ
  pub bytes : List ℕ

-- what the next field is
abbrev pub next_of : Rest → Result (Option Entry) Told
next_of r = verdict r.benchmark r.offset r.count r.least (split r.bytes)

-- where the reader stands after it
abbrev pub after : Rest → Result (Option Entry) Told → Rest
after r (Ok (Some e)) = record { benchmark = r.benchmark; offset = r.offset + 11; count = r.count + 1; least = e.day + 1; bytes = drop 11 r.bytes }
after r (Ok None) = record { benchmark = r.benchmark; offset = r.offset + 5; count = r.count; least = r.least; bytes = drop 5 r.bytes }
after r (Err x) = r

-- what the fields from there on give
abbrev pub tail_of : Rest → Result Tail Told
tail_of r = fields_from (4001 - r.count) r.benchmark r.offset r.count r.least r.bytes

-- the benchmark that a first field names, if it names one
abbrev pub named : Option BenchmarkCode → Result BenchmarkCode Told
named (Some b) = Ok b
named None = Err (plain 2)

-- the first field: tag 1 and the benchmark's code
unfoldable pub first_field : Option Split → Result BenchmarkCode Told
first_field None = Err (at_field 0)
first_field (Some f) = cond (f.label == 1 && length f.body == 1) (named (code_of (slice_index f.body 0))) (Err (at_field 0))

-- a file: its benchmark, its fixings and its length in bytes
pub record File : Type 0 where
  pub benchmark : BenchmarkCode
  pub tail : Tail

abbrev pub with_code : BenchmarkCode → Result Tail Told → Result File Told
with_code b (Ok t) = Ok (record { benchmark = b; tail = t })
with_code b (Err x) = Err x

abbrev pub on_code : Result BenchmarkCode Told → (BenchmarkCode → Result File Told) → Result File Told
on_code (Ok b) next = next b
on_code (Err x) next = Err x

-- the file at the front of a list of bytes; later bytes are left alone
unfoldable pub parse : List ℕ → Result File Told
parse s = on_code (first_field (split s)) (λ b. with_code b (fields_from 4001 b 4 0 0 (drop 4 s)))

-- what the reader's values mean
abbrev pub entry_of : Fixing → Entry
entry_of f = record { day = f.date.number; ticks = f.rate.ticks }

abbrev pub judged : Result Fixing Refusal → Result Entry Told
judged (Ok f) = Ok (entry_of f)
judged (Err x) = Err (told x)

abbrev pub read : Result (Option Fixing) Refusal → Result (Option Entry) Told
read (Ok o) = Ok (option_map entry_of o)
read (Err x) = Err (told x)

-- whether fixings can follow one another in a file, from a least day on: dates rise, dates and rates are within their values and on the step
unfoldable pub lawful_from : BenchmarkCode → ℕ → List Entry → Bool
lawful_from b least [] = true
lawful_from b least (e ∷ es) = (nat_le least e.day && (nat_le e.day 73048 && is_rate b e.ticks)) && lawful_from b (e.day + 1) es

-- the length of a file, or of its fields from an offset on
abbrev pub length_of : Result Tail Told → Result ℕ Told
length_of (Ok t) = Ok t.stop
length_of (Err x) = Err x

abbrev pub entries_of : Result Tail Told → List Entry
entries_of (Ok t) = t.entries
entries_of (Err x) = []
