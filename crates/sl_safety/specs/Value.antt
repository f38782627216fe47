pub mod ValueWrites
