-- SQL's three-valued tables, as they stand in the standard.
use Rattle.std.specs.Prelude.{Bool, true, false}
use Rattle.jp_base.specs.declared.truth.Truth.{Truth}
use Rattle.jp_base.specs.declared.truth.Truth.TheVariants.{True, False, Unknown}

abbrev pub truth_of_bool : Bool → Truth
truth_of_bool true = True
truth_of_bool false = False

abbrev pub and_of : Truth → Truth → Truth
and_of True True = True
and_of True False = False
and_of True Unknown = Unknown
and_of False True = False
and_of False False = False
and_of False Unknown = False
and_of Unknown True = Unknown
and_of Unknown False = False
and_of Unknown Unknown = Unknown

abbrev pub or_of : Truth → Truth → Truth
or_of True True = True
or_of True False = True
or_of True Unknown = True
or_of False True = True
or_of False False = False
or_of False Unknown = Unknown
or_of Unknown True = True
or_of Unknown False = Unknown
or_of Unknown Unknown = Unknown

abbrev pub not_of : Truth → Truth
not_of True = False
not_of False = True
not_of Unknown = Unknown
