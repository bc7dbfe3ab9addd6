-- The kinds of node, numbered as document 01 does.
use Rattle.std.specs.Prelude.{ℕ}

abbrev pub Program : ℕ
Program = 0

abbrev pub Function : ℕ
Function = 1

abbrev pub Arrow : ℕ
Arrow = 2

abbrev pub StaticBlock : ℕ
StaticBlock = 3

abbrev pub FunctionBody : ℕ
FunctionBody = 4

abbrev pub Block : ℕ
Block = 5

abbrev pub Labeled : ℕ
Labeled = 6

abbrev pub For : ℕ
For = 7

abbrev pub ForIn : ℕ
ForIn = 8

abbrev pub ForOf : ℕ
ForOf = 9

abbrev pub While : ℕ
While = 10

abbrev pub DoWhile : ℕ
DoWhile = 11

abbrev pub If : ℕ
If = 12

abbrev pub With : ℕ
With = 13

abbrev pub Switch : ℕ
Switch = 14

abbrev pub SwitchCase : ℕ
SwitchCase = 15

abbrev pub Try : ℕ
Try = 16

abbrev pub CatchClause : ℕ
CatchClause = 17

abbrev pub Break : ℕ
Break = 18

abbrev pub Continue : ℕ
Continue = 19

abbrev pub Return : ℕ
Return = 20

abbrev pub Throw : ℕ
Throw = 21

abbrev pub OtherStatement : ℕ
OtherStatement = 22

abbrev pub Directive : ℕ
Directive = 23

abbrev pub VariableDeclaration : ℕ
VariableDeclaration = 24

abbrev pub VariableDeclarator : ℕ
VariableDeclarator = 25

abbrev pub Class : ℕ
Class = 26

abbrev pub ClassBody : ℕ
ClassBody = 27

abbrev pub MethodDefinition : ℕ
MethodDefinition = 28

abbrev pub PropertyDefinition : ℕ
PropertyDefinition = 29

abbrev pub AccessorProperty : ℕ
AccessorProperty = 30

abbrev pub BindingIdentifier : ℕ
BindingIdentifier = 31

abbrev pub IdentifierReference : ℕ
IdentifierReference = 32

abbrev pub LabelIdentifier : ℕ
LabelIdentifier = 33

abbrev pub PrivateIdentifier : ℕ
PrivateIdentifier = 34

abbrev pub NumericLiteral : ℕ
NumericLiteral = 35

abbrev pub StringLiteral : ℕ
StringLiteral = 36

abbrev pub Super : ℕ
Super = 37

abbrev pub Call : ℕ
Call = 38

abbrev pub New : ℕ
New = 39

abbrev pub OtherMember : ℕ
OtherMember = 40

abbrev pub PrivateField : ℕ
PrivateField = 41

abbrev pub PrivateIn : ℕ
PrivateIn = 42

abbrev pub Object : ℕ
Object = 43

abbrev pub ObjectProperty : ℕ
ObjectProperty = 44

abbrev pub Unary : ℕ
Unary = 45

abbrev pub Chain : ℕ
Chain = 46

abbrev pub Await : ℕ
Await = 47

abbrev pub Yield : ℕ
Yield = 48

abbrev pub FormalParameter : ℕ
FormalParameter = 49

abbrev pub FormalParameterRest : ℕ
FormalParameterRest = 50

abbrev pub BindingRestElement : ℕ
BindingRestElement = 51

abbrev pub JSXAttribute : ℕ
JSXAttribute = 52

abbrev pub ExportDefault : ℕ
ExportDefault = 53

abbrev pub ExportNamed : ℕ
ExportNamed = 54

abbrev pub AnythingElse : ℕ
AnythingElse = 55
