-- What the words of the command line ask for.
use Rattle.std.specs.Prelude.{ℕ, List, ◌≡◌, length, Bool, true, false, ◌&&◌, nat_le, if◌then◌else◌, Option, Some, None, is_some, codes, option_map}
use Rattle.clap.specs.Faults.{fault_of}
use Rattle.clap.specs.Matches.{found_of}
use Rattle.clap.specs.Simple.{App, Shape, matches_of, new_app, new_rule, new_shape, with_rule}
use Rattle.clap.specs.Walk.{Row, Rule, first_of, rows_of}
use Rattle.clap.specs.declared.parser.matches.ArgMatches.{ArgMatches}
use Rattle.fm_words.specs.Parts.{Bytes}
use Rattle.fm_words.specs.Words.{is_empty, is_number, same_bytes, small, value}
use Rattle.fm_top.specs.declared.call.Call.{Call}
use Rattle.fm_top.specs.declared.call.Call.TheVariants.{Decide, Check, Sample}

-- ---- the command that takes the words

-- an argument that has to be there
abbrev pub command_argument : Rule
command_argument = record (new_rule (codes "command")) { required = true }

abbrev pub number_argument : Rule
number_argument = new_rule (codes "number")

-- `--budget` with one value
abbrev pub budget_option : Rule
budget_option = record (new_rule (codes "budget")) { long = Some (codes "budget") }

-- a command without the flags for help and version
abbrev pub bare_command : App
bare_command = record {
  top = record (new_shape (codes "fmod")) { no_binary_name = true; disable_help_flag = true; disable_version_flag = true };
  subs = (new_app (codes "fmod")).subs;
}

abbrev pub command_line : App
command_line = with_rule (with_rule (with_rule bare_command command_argument) number_argument) budget_option

-- ---- the numbers

-- the units of work for each query where the words name none, and the most that they may name
abbrev pub default_budget : ℕ
default_budget = 200000

abbrev pub largest_budget : ℕ
largest_budget = 4000000

-- the greatest number of six digits
abbrev pub largest_sample : ℕ
largest_sample = 999999

abbrev pub between : (least most : ℕ) → Option ℕ → Option ℕ
between least most None = None
between least most (Some n) = if nat_le least n && nat_le n most then Some n else None

-- a number of at most this many digits, from `least` to `most`
abbrev pub number_in : (digits least most : ℕ) → Bytes → Option ℕ
number_in digits least most word = if nat_le (length word) digits && is_number word then between least most (small (value word)) else None

-- a budget: one to seven digits
abbrev pub budget_in : Bytes → Option ℕ
budget_in word = number_in 7 1 largest_budget word

-- the number of a sample: one to six digits
abbrev pub sample_in : Bytes → Option ℕ
sample_in word = number_in 6 0 largest_sample word

-- ---- the calls

-- `decide` takes a budget and no number
abbrev pub deciding : (number budget : Option Bytes) → Option Call
deciding None None = Some (Decide default_budget)
deciding None (Some digits) = option_map Decide (budget_in digits)
deciding (Some n) budget = None

-- `check` takes no number and no budget
abbrev pub checking : (number budget : Option Bytes) → Option Call
checking None None = Some Check
checking None (Some digits) = None
checking (Some n) budget = None

-- `sample` takes a number and no budget
abbrev pub sampling : (number budget : Option Bytes) → Option Call
sampling None budget = None
sampling (Some digits) None = option_map Sample (sample_in digits)
sampling (Some digits) (Some n) = None

abbrev pub call_named : (command number budget : Option Bytes) → Option Call
call_named None number budget = None
call_named (Some command) number budget =
    if same_bytes command (codes "decide") then deciding number budget
    else (if same_bytes command (codes "check") then checking number budget
    else (if same_bytes command (codes "sample") then sampling number budget else None))

-- the call by the values of the arguments
abbrev pub call_in : List Row → Option Call
call_in rows = call_named (first_of (codes "command") rows) (first_of (codes "number") rows) (first_of (codes "budget") rows)

-- the command takes the words
unfoldable pub is_taken : List Bytes → Bool
is_taken words = is_empty (fault_of command_line words)

-- the matches of words that the command takes
unfoldable pub matches : List Bytes → List Row
matches words = matches_of command_line words

-- what a parse gives: the matches, or nothing where the command refuses the words
abbrev pub IsParseOf : List Bytes → Option ArgMatches → Type 0
IsParseOf words None = is_taken words ≡ false
IsParseOf words (Some m) = (is_taken words ≡ true) × (rows_of (found_of m) ≡ matches words)

-- what the words ask for, if the command takes them and the rules on its matches hold
unfoldable pub call_of : List Bytes → Option Call
call_of words = if is_taken words then call_in (matches words) else None

-- a call for a check of a certificate
abbrev pub checks : Option Call → Bool
checks None = false
checks (Some (Decide units)) = false
checks (Some Check) = true
checks (Some (Sample number)) = false

-- a call on a text
abbrev pub reads : Option Call → Bool
reads None = false
reads (Some (Decide units)) = true
reads (Some Check) = true
reads (Some (Sample number)) = false

-- the words ask for a check of a certificate
abbrev pub is_check : List Bytes → Bool
is_check words = checks (call_of words)

-- a text is read: a problem or a certificate
abbrev pub reads_text : List Bytes → Bool
reads_text words = reads (call_of words)

-- the words have the form of a call
abbrev pub is_call : List Bytes → Bool
is_call words = is_some (call_of words)
