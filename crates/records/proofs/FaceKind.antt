-- The faces are exactly the records of kind 16.
use mathlib.Core.Path.{◌≡◌, refl}
use lib.Dec.{eqb}
use Rattle.sheet.specs.declared.Record.{Record}
use Rattle.sheet.specs.declared.Record.TheVariants.{Constant, X, Y, Z, Sum, Difference, Product, Square, Face, Both, Either, Complement}
use Rattle.sheet.proofs.KindNumbers.{kind_of}
use Rattle.records.specs.Faces.{is_face}

pub face-by-kind : (r : Record) → is_face r ≡ eqb (kind_of r) 16
face-by-kind (Constant c) = refl
face-by-kind X = refl
face-by-kind Y = refl
face-by-kind Z = refl
face-by-kind (Sum a b) = refl
face-by-kind (Difference a b) = refl
face-by-kind (Product a b) = refl
face-by-kind (Square a) = refl
face-by-kind (Face by a) = refl
face-by-kind (Both p q) = refl
face-by-kind (Either p q) = refl
face-by-kind (Complement p) = refl
