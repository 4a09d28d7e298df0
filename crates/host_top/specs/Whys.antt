-- The words that messages have for reasons.
use Rattle.std.specs.Prelude.{ℕ, List, codes}
use Rattle.class_tokens.specs.declared.error.ClassWhy.{ClassWhy}
use Rattle.class_tokens.specs.declared.error.ClassWhy.TheVariants as class
use Rattle.class_link.specs.declared.error.LinkWhy.{LinkWhy}
use Rattle.class_link.specs.declared.error.LinkWhy.TheVariants as link

abbrev pub class_why_text : ClassWhy → List ℕ
class_why_text class.NotAscii = codes "NotAscii"
class_why_text class.UnexpectedEnd = codes "UnexpectedEnd"
class_why_text class.UnexpectedToken = codes "UnexpectedToken"
class_why_text class.NameTooLong = codes "NameTooLong"
class_why_text class.NumberTooLong = codes "NumberTooLong"
class_why_text class.NoPackage = codes "NoPackage"
class_why_text class.LeftOut = codes "LeftOut"
class_why_text class.RepeatedMember = codes "RepeatedMember"
class_why_text class.TooMany = codes "TooMany"

abbrev pub link_why_text : LinkWhy → List ℕ
link_why_text link.RepeatedClass = codes "RepeatedClass"
link_why_text link.UnknownSuper = codes "UnknownSuper"
link_why_text link.SuperRing = codes "SuperRing"
link_why_text link.KindClash = codes "KindClash"
link_why_text link.UnknownType = codes "UnknownType"
link_why_text link.BadType = codes "BadType"
link_why_text link.SerialRing = codes "SerialRing"
link_why_text link.NotYet = codes "NotYet"
link_why_text link.NoInverse = codes "NoInverse"
link_why_text link.UnknownIndexProperty = codes "UnknownIndexProperty"
link_why_text link.BadIndexProperty = codes "BadIndexProperty"
link_why_text link.NameClash = codes "NameClash"
link_why_text link.BadParameter = codes "BadParameter"
link_why_text link.TooMany = codes "TooMany"
