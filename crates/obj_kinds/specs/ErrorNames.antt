-- The names of script errors.
use Rattle.std.specs.Prelude.{ℕ, List, codes}
use Rattle.obj_kinds.specs.declared.error_name.ErrorName.{ErrorName}
use Rattle.obj_kinds.specs.declared.error_name.ErrorName.TheVariants.{Undefined, InvalidOref, PropertyDoesNotExist, MethodDoesNotExist, ClassDoesNotExist, CannotSetThisProperty, Parameter, Command, TransactionLevel, Subscript, MaxString, MaxNumber, Divide, Function, List as ListError, NullValue, IllegalValue, FrameStack}

abbrev pub error_text : ErrorName → List ℕ
error_text Undefined = codes "<UNDEFINED>"
error_text InvalidOref = codes "<INVALID OREF>"
error_text PropertyDoesNotExist = codes "<PROPERTY DOES NOT EXIST>"
error_text MethodDoesNotExist = codes "<METHOD DOES NOT EXIST>"
error_text ClassDoesNotExist = codes "<CLASS DOES NOT EXIST>"
error_text CannotSetThisProperty = codes "<CANNOT SET THIS PROPERTY>"
error_text Parameter = codes "<PARAMETER>"
error_text Command = codes "<COMMAND>"
error_text TransactionLevel = codes "<TRANSACTION LEVEL>"
error_text Subscript = codes "<SUBSCRIPT>"
error_text MaxString = codes "<MAXSTRING>"
error_text MaxNumber = codes "<MAXNUMBER>"
error_text Divide = codes "<DIVIDE>"
error_text Function = codes "<FUNCTION>"
error_text ListError = codes "<LIST>"
error_text NullValue = codes "<NULL VALUE>"
error_text IllegalValue = codes "<ILLEGAL VALUE>"
error_text FrameStack = codes "<FRAMESTACK>"
