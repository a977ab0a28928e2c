-- What clap's parse says of the words.
use Rattle.std.proofs.Common.{◌≡◌, ◌≢◌, ◌∙◌, Bool, true, false, List, [], ◌∷◌, Option, Some, None, ◌⊎◌, inl, inr, codes, refl, sym, ap, subst}
use Rattle.clap.specs.Faults.{fault_of, is_simple_and_free}
use Rattle.clap.specs.Kinds.{HasKind, IsAmong, Kinds}
use Rattle.clap.specs.Matches.{first_value, found_of}
use Rattle.clap.specs.Simple.{App, HasMatchesOf, is_simple, matches_of}
use Rattle.clap.specs.Values.{kind_of}
use Rattle.clap.specs.Walk.{rows_of}
use Rattle.clap.specs.declared.error.Error.{Error}
use Rattle.clap.specs.declared.error.kind.ErrorKind.TheVariants.{OutOfMemory}
use Rattle.clap.specs.declared.parser.matches.ArgMatches.{ArgMatches}
use Rattle.clap.proofs.OnLiterals.{clap_on_literals}
use Rattle.clap.proofs.WalkLemmas.{first_value-rows}
use Rattle.fm_words.specs.Parts.{Bytes}
use Rattle.fm_words.specs.Words.{is_empty}
use Rattle.fm_top.specs.Words.{IsParseOf, call_named, call_of, command_line, is_taken, matches}

line_is_free : is_simple_and_free command_line ≡ true
unfolding clap_on_literals
line_is_free = refl

line_is_simple : is_simple command_line ≡ true
unfolding clap_on_literals
line_is_simple = refl

-- a parse that succeeds took the words, and gives their matches
pub taken : (a : App) (words : List Bytes) → a ≡ command_line → (is_simple_and_free a ≡ true → fault_of a words ≡ []) → is_taken words ≡ true
unfolding is_taken
taken a words e h = ap is_empty (ap (λ x. fault_of x words) (sym e) ∙ h (ap is_simple_and_free e ∙ line_is_free))

pub matched : (a : App) (words : List Bytes) (m : ArgMatches) → a ≡ command_line → HasMatchesOf a words m → rows_of (found_of m) ≡ matches words
unfolding matches
matched a words m e h = (h (ap is_simple e ∙ line_is_simple)).0 ∙ ap (λ x. matches_of x words) e

-- a parse that fails for another reason than memory refuses the words
some_kind : (kinds : Kinds) (e : Error) → kind_of e ≢ OutOfMemory → HasKind kinds e → is_empty kinds ≡ false
some_kind [] e other (inl h) = absurd (other h)
some_kind [] e other (inr h) = absurd h
some_kind (k ∷ ks) e other h = refl

pub refused : (a : App) (words : List Bytes) (e : Error) → a ≡ command_line → (is_simple_and_free a ≡ true → HasKind (fault_of a words) e)
    → kind_of e ≢ OutOfMemory → is_taken words ≡ false
unfolding is_taken
refused a words e same h other =
    ap (λ x. is_empty (fault_of x words)) (sym same) ∙ some_kind (fault_of a words) e other (h (ap is_simple_and_free same ∙ line_is_free))

-- the call by the values that the matches give
module _ (words : List Bytes) (found : Option ArgMatches) (parse : IsParseOf words found) where
  pub called : (m : ArgMatches) (command number budget : Option Bytes) → found ≡ Some m → command ≡ first_value (found_of m) (codes "command")
      → number ≡ first_value (found_of m) (codes "number") → budget ≡ first_value (found_of m) (codes "budget") → call_named command number budget ≡ call_of words
  unfolding call_of
  called m command number budget is command_is number_is budget_is =
      let seen = subst (IsParseOf words) is parse in
      rw (
        command_is ∙ first_value-rows (found_of m) (codes "command"),
        number_is ∙ first_value-rows (found_of m) (codes "number"),
        budget_is ∙ first_value-rows (found_of m) (codes "budget"),
        seen.1,
        seen.0,
      ) refl

  pub not_called : found ≡ None → None ≡ call_of words
  unfolding call_of
  not_called is = let seen = subst (IsParseOf words) is parse in rw (seen) refl
